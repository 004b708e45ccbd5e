-- The refusal of the first observed gate that is unknown on care.
use Rattle.std.proofs.Common.{◌≡◌, inl, inr, ℕ, ◌<◌, Bool, true, false, not, List, length, map, get_or, Option, None, refl, sym, ap, ◌∙◌, subst, arith, Contains, true≢false}
use Rattle.verdict.proofs.Common.{find, is_some, and_from, cases_lt, get_or-map, get_or_default, length-map, vectors, Parts, IsNetlist, gate_sig, Blocks, AreBlocksOf, is_marked, ListsMarked, unsettled_loops_decide, CareSet, columns, is_care_vector, Observe, observed, is_undetermined, none_passes, gate_wire, care_vector_is, is_unknown_at, SettleInOneSweep, AreMarksOf, All, IsFirstToRefuse}
use Rattle.std.proofs.lemmas.Bool.{cases_eq}
use Rattle.isolation.specs.Excerpts.{gate_in}
use Rattle.refusals.specs.Tests.{is_unknown}
use Rattle.clause_decision.specs.Tests.{IsFirstUnknown}
use Rattle.verdict.specs.Determination.{AreDeterminedOnCare, IsOpen}
use Rattle.verdict.specs.Scopes.{AreOpenGates}
use Rattle.verdict.specs.Unknown.{AreAskedCandidates, IsAskedFor}
use Rattle.diagram_decision.proofs.PartLemmas.{known-here}

-- ---- the first of them that is unknown

-- what isn't found is known
pub none-some : (o : Option (List Bool)) → is_some o ≡ false → o ≡ None
none-some o is = grind arith

-- it refuses the netlist
pub first-refuses : (net : Parts) → IsNetlist net → (blocks : Blocks) → AreBlocksOf net blocks → (settled seen marks : List Bool) (last : ℕ) → SettleInOneSweep net blocks settled → AreAskedCandidates net blocks settled seen last marks →
    (care : CareSet) (what : Observe) → AreMarksOf net (observed net what) seen → (gates : List ℕ) → ListsMarked marks (length net.gates) gates → (place : ℕ) → IsFirstUnknown net care gates place → IsFirstToRefuse net care what (gate_in gates place)
first-refuses net valid blocks are settled seen marks last soon candidates care what seen_is gates listed place first = record {
  seen = sym (seen_is.each here (at here-listed).0) ∙ asked.seen;
  before = λ m less is. by m less (record { seen = seen_is.each m (omega (arith, less, (at here-listed).0)) ∙ is; early = omega (arith, less, asked.early) });
}
  where
    here : ℕ
    here = gate_in gates place

    here-listed : Contains gates here
    here-listed = (place, first.within, get_or_default gates place _ _ first.within)

    at : Contains gates here → (here < length net.gates) × (is_marked marks here ≡ true)
    at c = (listed.each here).0 c

    asked : IsAskedFor seen last here
    asked = candidates.only here (at here-listed).1

    known : (m : ℕ) → Contains gates m → m < here → find (is_unknown_at net care m) (vectors (columns net)) ≡ None
    known m c less =
        let same : gate_in gates c.0 ≡ m = get_or_default gates c.0 0 m c.1 ∙ c.2 in
        let early : c.0 < place = elim (cases_lt c.0 place) [
          | inl low ↦ low
          | inr late ↦ elim (cases_eq c.0 place) [
            | inl e ↦ absurd (let f = ap (gate_in gates) e in omega (arith, f, same, less))
            | inr other ↦ absurd (let r = listed.rise place c.0 (omega (arith, late, other)) c.1 in omega (arith, r, same, less))
          ]
        ] in
        subst (λ (n : ℕ). find (is_unknown_at net care n) (vectors (columns net)) ≡ None) same (none-some _ (first.before c.0 early))

    by : (m : ℕ) → m < here → IsAskedFor seen last m → find (is_unknown_at net care m) (vectors (columns net)) ≡ None
    by m less wanted = two (is_marked marks m) refl
      where
        inside : m < length net.gates
        inside = let l = (at here-listed).0 in omega (arith, less, l)

        two : (b : Bool) → is_marked marks m ≡ b → find (is_unknown_at net care m) (vectors (columns net)) ≡ None
        two true marked = known m ((listed.each m).1 (inside, marked)) less
        two false apart = known-here net care m inside (λ v counts.
            unsettled_loops_decide net blocks (is_marked settled) valid are (λ b within loop marked. (soon b within loop marked).alone) v counts.width m inside
            (λ g low up loop unsettled. absurd (true≢false (sym (candidates.each m wanted (record { gate = g; opened = record { within = low; looped = loop; unsettled = unsettled }; upstream = up })) ∙ apart))))

-- ---- the gates of loops that aren't settled

pub open-gates : (net : Parts) (blocks : Blocks) (settled marks : List Bool) (gates : List ℕ) → length blocks.home ≡ length net.gates → marks ≡ map (λ home. not (is_marked settled home)) blocks.home →
    ListsMarked marks (length marks) gates → AreOpenGates net blocks settled gates
open-gates net blocks settled marks gates homes marks_are listed = record {
  within = λ k d less. let low = ((listed.each (get_or gates k d)).0 (k, less, get_or_default gates k _ d less)).0 in omega (arith, low, wide);
  all = λ n is_open. (listed.each n).1 (let w = is_open.within in omega (arith, w, wide), marked n is_open);
}
  where
    wide : length marks ≡ length net.gates
    wide = ap (λ (ms : List Bool). length ms) marks_are ∙ length-map blocks.home (λ home. not (is_marked settled home)) ∙ homes

    marked : (n : ℕ) → IsOpen net blocks settled n → is_marked marks n ≡ true
    marked n is_open = grind (arith, get_or-map)

-- none of them is unknown on care
pub open-known : (net : Parts) (blocks : Blocks) (care : CareSet) (settled : List Bool) (gates : List ℕ) → AreOpenGates net blocks settled gates →
    ((j : ℕ) → j < length gates → is_unknown net care (gate_in gates j) ≡ false) → AreDeterminedOnCare net care (IsOpen net blocks settled)
open-known net blocks care settled gates are none v counts n is_open =
    let c = are.all n is_open in
    grind (arith, get_or_default gates c.0 0 n c.1, none-some _ (none c.0 c.1), true≢false, and_from (is_care_vector net care v) (is_undetermined net (gate_sig net n) v) (care_vector_is net care v counts), care_vector_is net care v counts, gate_wire net v n counts.width, none_passes (columns net) (is_unknown_at net care n) v)

pub listed-within : (marks : List Bool) (n : ℕ) (gates : List ℕ) → ListsMarked marks n gates → All (λ m. m < n) gates
listed-within marks n gates listed k d less = ((listed.each (get_or gates k d)).0 (k, less, get_or_default gates k _ d less)).0
