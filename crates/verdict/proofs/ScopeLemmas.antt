-- Which gates the clauses of a question speak of.
use Rattle.std.proofs.Common.{◌≡◌, inl, inr, ℕ, ◌+◌, ◌-◌, ◌<◌, Bool, true, false, not, List, [], length, map, get_or, slice_get, Option, Some, subst, refl, sym, ap, ◌∙◌, arith, true≢false, Contains}
use Rattle.verdict.proofs.Common.{option_map_or, cases_lt, get_or_from_slice_get, Sig, get_or-map, get_or_default, Parts, Latch, gate_sig, IsNetlist, Blocks, AreBlocksOf, is_marked, unsettled_loops_decide, CareModel, CareSet, SettleInOneSweep, AreDriversBefore, All, AreCandidates}
use Rattle.std.proofs.lemmas.Bool.{not-true}
use Rattle.loops.proofs.Walks.{leads-step}
use Rattle.loops.specs.Cones.{IsConeOf}
use Rattle.loops.proofs.UpstreamLemmas.{upstream-trans}
use Rattle.clause_decision.specs.declared.scope.Scope.{Scope}
use Rattle.clause_decision.specs.Loads.{HasLoads}
use Rattle.clause_decision.specs.Scopes.{AreClosed, AreInScope, AreNeverUnknown}
use Rattle.verdict.specs.Scopes.{AreDrivers}
use Rattle.diagram_decision.proofs.CareLemmas.{model_is}
use Rattle.diagram_decision.proofs.WorkLemmas.{there_each}

-- ---- scopes

-- the gates that are not in the fanout of a loop that isn't settled are known at each Boolean vector
pub never-fed : (net : Parts) → IsNetlist net → (blocks : Blocks) → AreBlocksOf net blocks → (settled candidates known : List Bool) → SettleInOneSweep net blocks settled →
    AreCandidates net blocks settled candidates → known ≡ map not candidates → AreNeverUnknown net known
never-fed net valid blocks are settled candidates known soon all known_is v wide n within marked =
    grind (arith, unsettled_loops_decide net blocks (is_marked settled) valid are, true≢false, not-true (is_marked candidates n), get_or-map not candidates n false false)

-- a cone has with each gate those that feed it
pub cone_closes : (net : Parts) (gates : List ℕ) (marks : List Bool) → IsConeOf net gates marks → AreClosed net marks
cone_closes net gates marks are m n feeds marked =
    let lead = (are.each n feeds.reader).0 marked in
    (are.each m feeds.source).1 (record { gate = lead.gate; among = lead.among; upstream = upstream-trans net m n lead.gate (inr (leads-step net m n feeds)) lead.upstream })

-- and the gates themselves
pub cone_within : (net : Parts) (gates : List ℕ) (marks : List Bool) → All (λ n. n < length net.gates) gates → IsConeOf net gates marks → All (λ n. is_marked marks n ≡ true) gates
cone_within net gates marks within are k d less =
    (are.each (get_or gates k d) (within k d less)).1 (record { gate = get_or gates k d; among = (k, less, get_or_default gates k _ d less); upstream = inl refl })

-- ---- the gates that drive the latches which the invariant reads

-- a gate by its signal
pub same-gate : (net : Parts) (m n : ℕ) → gate_sig net m ≡ gate_sig net n → m ≡ n
same-gate net m n is = let e = ap (λ (s : Sig). s.0) is in omega (arith, e)

-- one column more
pub drivers-more : (net : Parts) (columns : List ℕ) (k : ℕ) (gates new : List ℕ) (latch : Latch) → slice_get net.latches (get_or columns k 0 - length net.inputs) ≡ Some latch → k < length columns →
    All (λ n. n < length net.gates) new → ((n : ℕ) → Contains gates n → Contains new n) → ((n : ℕ) → latch.from ≡ gate_sig net n → Contains new n) →
    AreDriversBefore net columns k gates → AreDriversBefore net columns (k + 1) new
drivers-more net columns k gates new latch there inside within keeps driven before = record {
  within = within;
  all = λ j d n none less low is. elim (cases_lt j k) [
    | inl early ↦ keeps n (before.all j d n none early low is)
    | inr late ↦
        let at : k ≡ j = omega (arith, less, late) in
        let here : latch ≡ get_or net.latches (get_or columns j d - length net.inputs) none =
        sym (get_or_from_slice_get net.latches (get_or columns k 0 - length net.inputs) latch none there) ∙ ap (λ (m : ℕ). get_or net.latches (m - length net.inputs) none) (ap (λ (m : ℕ). get_or columns m 0) at ∙ get_or_default columns j 0 d (omega (arith, inside, at))) in
        driven n (ap (λ (l : Latch). l.from) here ∙ is)
  ];
}

-- all columns
pub drivers-all : (net : Parts) (care : CareSet) (columns : List ℕ) (gates : List ℕ) → columns ≡ option_map_or (λ model. model.columns) care.invariant [] → AreDriversBefore net columns (length columns) gates → AreDrivers net care gates
drivers-all net care columns gates is are = there_each care.invariant _ (λ model there column n none c low from.
    let here : Contains columns column = subst (λ (xs : List ℕ). Contains xs column) (sym (is ∙ ap (λ (o : Option CareModel). option_map_or (λ m. m.columns) o []) there)) c in
    are.all here.0 column n none here.1 low (ap (λ (m : ℕ). (get_or net.latches (m - length net.inputs) none).from) here.2 ∙ from))

-- in whose scope they are
pub drivers-within : (net : Parts) (care : CareSet) (scope : Scope) (gates : List ℕ) → AreDrivers net care gates → AreInScope net scope gates → HasLoads net care scope
drivers-within net care scope gates are within = there_each care.invariant _ (λ model there column n none c low from.
    let d = model_is care.invariant model _ there are column n none c low from in
    subst (λ (m : ℕ). is_marked scope.gates m ≡ true) d.2 (within d.0 n d.1))
