-- Gates that are unknown on care where no observed one is, and the sweeps of loops where there are some.
use Rattle.std.proofs.Common.{◌≡◌, ◌≢◌, inl, inr, ℕ, zero, suc, ◌<◌, Bool, true, false, not, ◌↔◌, List, [], ◌∷◌, length, get_or, Option, refl, sym, ap, ◌∙◌, arith, Contains, true≢false}
use Rattle.verdict.proofs.Common.{find, is_none, is_some, and_from, cases_lt, get_or_default, get_or_past, X, bits, vectors, Parts, IsNetlist, gate_sig, fix_gates, Blocks, Cut, AreBlocksOf, block_at, home_of, IsCutOf, loops_by, value_in, home_gate, is_marked, ListsMarked, unsettled_loops_decide, CareSet, columns, is_care_vector, IsCareVector, is_undetermined, is_x, none_passes, gate_wire, care_vector_is, AreFedKnown, IsLeastCount, is_unknown_at, SettleInOneSweep, AreLoopCounts, AreScattered, AreUnknownMarks, are_care_values, AreCandidates, AreLoose, Sig, gate_sigs}
use Rattle.std.specs.Prelude.{filter}
use Rattle.loops.specs.declared.structure.SweepCounts.{SweepCounts}
use Rattle.loops.proofs.Told.{blocks_tell_loops}
use Rattle.isolation.proofs.CountLemmas.{one_sweep_is_exact}
use Rattle.refusals.specs.Acceptance.{SomeCareVector}
use Rattle.refusals.proofs.LawLemmas.{is_loose}
use Rattle.refusals.proofs.RefusalLemmas.{gate_sig_at, length-gate_sigs}
use Rattle.refusals.specs.Tests.{is_unknown}
use Rattle.clause_decision.specs.Tests.{TellEachUnknown}
use Rattle.verdict.specs.Fanout.{AreReached}
use Rattle.clause_decision.specs.Scopes.{AreKnownOnCare}
use Rattle.verdict.specs.Loose.{AreKnownAround, AreWithout, IsLoopCount}
use Rattle.loop_simulation.specs.Sweeping.{AreSweepsOnCare}
use Rattle.loop_simulation.proofs.NeededLemmas.{care-values}
use Rattle.verdict.proofs.DeterminationLemmas.{determined-around, least-count}
use Rattle.diagram_decision.proofs.PartLemmas.{IsKnownOnCare, known-here, loose-known}
use Rattle.verdict.proofs.CandidateLemmas.{none-some}

-- what a test says that isn't so
pub says-not : {P : Type 0} (b : Bool) → ((b ≡ true) ↔ P) → not b ≡ true → ¬ P
says-not b tells isnt p = grind arith

-- ---- which gates are unknown on care

module _ (net : Parts) (valid : IsNetlist net) (blocks : Blocks) (are : AreBlocksOf net blocks) (settled : List Bool) (soon : SettleInOneSweep net blocks settled) (care : CareSet)
    (candidates : List Bool) (gates : List ℕ) (found marks : List Bool) (candidates_are : AreCandidates net blocks settled candidates) (listed : ListsMarked candidates (length net.gates) gates)
    (told : TellEachUnknown net care gates found) (spread : AreScattered (length net.gates) gates found (length gates) marks) where
  -- one that isn't marked, and is listed
  listed-known : (n : ℕ) → is_marked marks n ≡ false → (c : Contains gates n) → (b : Bool) → is_marked found c.0 ≡ b → is_unknown net care n ≡ false
  listed-known n isnt c h has = grind (arith, true≢false, get_or_default)

  -- or isn't
  no-candidate : (n : ℕ) → n < length net.gates → is_marked candidates n ≡ false → is_unknown net care n ≡ false
  no-candidate n less apart =
      ap (λ (o : Option (List Bool)). is_some o)
      (known-here net care n less (λ v counts.
      unsettled_loops_decide net blocks (is_marked settled) valid are (λ b within loop marked. (soon b within loop marked).alone) v counts.width n less
      (λ g low up loop unsettled. absurd (true≢false (sym (candidates_are.each n less (record { gate = g; opened = record { within = low; looped = loop; unsettled = unsettled }; upstream = up })) ∙ apart)))))

  unmarked : (n : ℕ) → n < length net.gates → is_marked marks n ≡ false → (b : Bool) → is_marked candidates n ≡ b → is_unknown net care n ≡ false
  unmarked n less isnt true candidate = let c = (listed.each n).1 (less, candidate) in listed-known n isnt c (is_marked found c.0) refl
  unmarked n less isnt false apart = no-candidate n less apart

  by-mark : (n : ℕ) → n < length net.gates → (b : Bool) → is_marked marks n ≡ b → is_unknown net care n ≡ is_marked marks n
  by-mark n less h is = grind (arith, unmarked)

  pub unknown-marked : AreUnknownMarks net care marks
  unknown-marked = record { width = spread.width_is; each = λ n less. by-mark n less (is_marked marks n) refl }

-- a gate that is known on care isn't X at a care vector
known-value : (net : Parts) (care : CareSet) (n : ℕ) → IsKnownOnCare net care n → (v : List Bool) → IsCareVector net care v → value_in (fix_gates net (bits v)) n ≢ X
known-value net care n known v counts x =
    true≢false (sym (and_from (is_care_vector net care v) (is_undetermined net (gate_sig net n) v) (care_vector_is net care v counts) (ap is_x (gate_wire net v n counts.width ∙ x))) ∙ none_passes (columns net) (is_unknown_at net care n) v known counts.width)

-- where no element passes a test
none-pass : {A : Type 0} (p : A → Bool) (xs : List A) → length (filter p xs) ≡ 0 → (k : ℕ) (d : A) → k < length xs → p (get_or xs k d) ≡ false
none-pass p [] none k d inside = absurd (omega (arith, inside))
none-pass p (x ∷ xs) none zero d inside = grind arith
none-pass p (x ∷ xs) none (suc k) d inside = grind (arith, none-pass p xs)

-- where no gate is loose, none is unknown at a care vector
pub no-loose : (net : Parts) (care : CareSet) → AreLoose net care 0 → AreKnownOnCare net care
no-loose net care none v counts n less =
    let gate : Sig = gate_sig net n in
    let known : is_loose net care gate ≡ false =
    sym (ap (is_loose net care) (gate_sig_at net n gate less)) ∙ none-pass (is_loose net care) (gate_sigs net) (sym none) n gate (omega (arith, less, length-gate_sigs net)) in
    known-value net care n (loose-known net care n known) v counts

module _ (net : Parts) (care : CareSet) (marks : List Bool) (are : AreUnknownMarks net care marks) where
  -- one without a mark is known on care
  pub unmarked-known : (n : ℕ) → n < length net.gates → is_marked marks n ≡ false → IsKnownOnCare net care n
  unmarked-known n less isnt = none-some (find (is_unknown_at net care n) (vectors (columns net))) (are.each n less ∙ isnt)

  -- and isn't X at a care vector
  pub unmarked-value : (n : ℕ) → n < length net.gates → is_marked marks n ≡ false → (v : List Bool) → IsCareVector net care v → value_in (fix_gates net (bits v)) n ≢ X
  unmarked-value n less isnt = known-value net care n (unmarked-known n less isnt)

  -- one with a mark isn't known
  pub marked-unknown : (n : ℕ) → n < length net.gates → is_marked marks n ≡ true → is_none (find (is_unknown_at net care n) (vectors (columns net))) ≡ false
  marked-unknown n less is = grind arith

  -- ---- loops around which all is known on care

  known-unless : (n : ℕ) → n < length net.gates → (is_marked marks n ≡ true → ⊥) → (v : List Bool) → IsCareVector net care v → value_in (fix_gates net (bits v)) n ≢ X
  known-unless n less isnt = by (is_marked marks n) refl
    where
      by : (b : Bool) → is_marked marks n ≡ b → (v : List Bool) → IsCareVector net care v → value_in (fix_gates net (bits v)) n ≢ X
      by b is = grind (arith, unmarked-value)

  pub fed-known : (gates : List ℕ) (others : List Bool) → AreWithout gates marks others → ¬ AreReached net gates others → AreFedKnown net care gates
  fed-known gates others without apart v counts m n feeds inside outside =
      known-unless m feeds.source (λ is. apart (record { gate = n; among = inside; mark = inr (record { gate = m; feeds = feeds; marked = without.kept m outside ∙ is }) })) v counts

  pub unreached-known : (gates : List ℕ) → ((n : ℕ) → Contains gates n → n < length net.gates) → ¬ AreReached net gates marks → AreKnownAround net care gates
  unreached-known gates within apart = record {
    own = λ v counts n among. known-unless n (within n among) (λ is. apart (record { gate = n; among = among; mark = inl is })) v counts;
    feeding = λ v counts m n among feeds. known-unless m feeds.source (λ is. apart (record { gate = n; among = among; mark = inr (record { gate = m; feeds = feeds; marked = is }) })) v counts;
  }

module _ (net : Parts) (valid : IsNetlist net) (blocks : Blocks) (are : AreBlocksOf net blocks) (cut : Cut) (cut_is : IsCutOf net cut) (care : CareSet) where
  -- a loop that is settled by itself needs one sweep there
  pub one-sweep : SomeCareVector net care → (settled : List Bool) → SettleInOneSweep net blocks settled → (place : ℕ) → place < length blocks.list → (block_at blocks place).looped ≡ true → is_marked settled place ≡ true →
      AreKnownAround net care (block_at blocks place).gates → IsLoopCount net blocks cut care place 1
  one-sweep some settled soon place within looped marked known = record {
    loops = λ loop gate.
        one_sweep_is_exact net blocks (loops_by blocks cut) valid are (blocks_tell_loops net blocks cut are cut_is) place within looped (soon place within looped marked)
        (are_care_values net care) (determined-around net care (block_at blocks place).gates known)
        (bits some.vector) (care-values net care some.vector some.counts.width (care_vector_is net care some.vector some.counts)) gate;
    others = λ plain. absurd (true≢false (sym looped ∙ plain));
  }

  -- another one needs the least number at Boolean care vectors
  pub least-loop : (place count : ℕ) → (block_at blocks place).looped ≡ true → ((gate : ℕ) → Contains (block_at blocks place).gates gate → IsLeastCount net (loops_by blocks cut) care gate count) →
      IsLoopCount net blocks cut care place count
  least-loop place count looped least = grind (arith, least-count net (loops_by blocks cut) care, true≢false)

-- ---- the sweeps of all loops

-- all of them
pub loop-counts-all : (net : Parts) (blocks : Blocks) → AreBlocksOf net blocks → (cut : Cut) (care : CareSet) (n : ℕ) (counts : SweepCounts) → n ≡ length blocks.list → AreLoopCounts net blocks cut care n counts.per_block →
    AreSweepsOnCare net blocks cut care counts
loop-counts-all net blocks are cut care n counts all at = record {
  width = at.width ∙ all;
  loops = λ gate less looped.
      (at.each (home_of blocks gate) (let h = are.home gate less in omega (arith, h, all))).loops looped gate (home_gate net blocks are gate less);
  others = λ b plain. elim (cases_lt b n) [
    | inl within ↦ (at.each b within).others plain
    | inr past ↦ get_or_past counts.per_block b 0 (let w = at.width in omega (arith, past, w))
  ];
}
