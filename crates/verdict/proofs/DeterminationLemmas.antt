-- Netlists whose gates are all determined on care.
use Rattle.std.proofs.Common.{◌≡◌, inl, inr, ℕ, Bool, true, false, if◌then◌else◌, List, get_or, Option, Some, None, refl, sym, ◌∙◌, subst, arith, true≢false}
use Rattle.verdict.proofs.Common.{find, cases_lt, Trit, bits, vectors, Parts, IsNetlist, Blocks, AreBlocksOf, Loops, IsCountOfSweeps, unsettled_loops_decide, is_marked, CareSet, columns, is_care_vector, Refusal, EmptyCare, Observe, care_vectors, leaves, leaves_refusal, undetermined_refusal, empty-filter, found_wide, care_vector_decides, care_vector_is, SettleInOneSweep, IsLeastCount, are_care_values, AreLoose}
use Rattle.verdict.specs.Loose.{AreKnownAround}
use Rattle.cyc_base.proofs.OrderLemmas.{bit-known, bits-at}
use Rattle.loops.specs.Sweeps.{CutsAreFixed}
use Rattle.isolation.specs.Laws.{AreDeterminedAt}
use Rattle.refusals.specs.Acceptance.{SomeCareVector}
use Rattle.refusals.specs.Refusals.{empty_refusal}
use Rattle.refusals.proofs.FirstLemmas.{found_passes}
use Rattle.refusals.proofs.RefusalLemmas.{find_none-all, length-bits}
use Rattle.verdict.specs.Determination.{AreDeterminedOnCare, IsGate, IsOpen}
use Rattle.loop_simulation.proofs.NeededLemmas.{bits-of-care, care-values}
use Rattle.diagram_decision.proofs.PartLemmas.{loose-none, undetermined-none, known-here}

-- ---- values of care vectors

-- where on care none of these gates is X, and none that feeds one of them, they are determined at such values
pub determined-around : (net : Parts) (care : CareSet) (gates : List ℕ) → AreKnownAround net care gates → (v : List Trit) → are_care_values net care v ≡ true → AreDeterminedAt net gates v
determined-around net care gates known v is =
    let b = bits-of-care net care v is in
    subst (AreDeterminedAt net gates) (sym b.is) (record {
      width = length-bits b.vector ∙ b.counts.width;
      columns = λ k less x. bit-known (get_or b.vector k false) (sym (bits-at b.vector k (omega (arith, less, length-bits b.vector))) ∙ x);
      own = known.own b.vector b.counts;
      feeding = known.feeding b.vector b.counts;
    })

-- there is a care vector
pub some_vector : (net : Parts) (care : CareSet) → empty_refusal net care ≡ None → SomeCareVector net care
some_vector net care none = by (find (is_care_vector net care) (vectors (columns net))) refl
  where
    filled : (t : Bool) → (let nothing : Option Refusal = None in if t then Some EmptyCare else nothing) ≡ None → t ≡ false
    filled t e = grind (arith, true≢false)

    by : (o : Option (List Bool)) → find (is_care_vector net care) (vectors (columns net)) ≡ o → SomeCareVector net care
    by o is = grind (arith, true≢false, empty-filter, care_vector_decides, found_wide, found_passes)

-- ---- settled loops, and their sweeps

-- the least number of sweeps at Boolean care vectors is that of the loop on care
pub least-count : (net : Parts) (loops : Loops) (care : CareSet) (a m : ℕ) → IsLeastCount net loops care a m → IsCountOfSweeps net loops (are_care_values net care) a m
least-count net loops care a m is = record {
  enough = λ v counts. let b = bits-of-care net care v counts in subst (λ (u : List Trit). CutsAreFixed net loops u a m) (sym b.is) (is.enough b.vector b.counts);
  least = λ k all. elim (cases_lt k m) [
    | inl low ↦
        let more = is.least k low in
        absurd (more.open_cuts (all (bits more.vector) (care-values net care more.vector more.counts.width (care_vector_is net care more.vector more.counts))))
    | inr high ↦ high
  ];
}

-- where the gates of open loops are known on care, all are
pub open-determine : (net : Parts) → IsNetlist net → (blocks : Blocks) → AreBlocksOf net blocks → (care : CareSet) (settled : List Bool) → SettleInOneSweep net blocks settled →
    AreDeterminedOnCare net care (IsOpen net blocks settled) → AreDeterminedOnCare net care (IsGate net)
open-determine net valid blocks are care settled soon known v is n within = grind (arith, unsettled_loops_decide net blocks (is_marked settled) valid are)

-- ---- what a determination decides

pub none-undetermined : (net : Parts) (care : CareSet) (what : Observe) → AreDeterminedOnCare net care (IsGate net) → undetermined_refusal net care what ≡ None
none-undetermined net care what determined = undetermined-none net care what (λ k less seen. known-here net care k less (λ v counts. determined v counts k less))

pub determination-loose : (net : Parts) (care : CareSet) → AreDeterminedOnCare net care (IsGate net) → AreLoose net care 0
determination-loose net care determined = loose-none net care (λ n less. known-here net care n less (λ v counts. determined v counts n less))

-- without an invariant no next state leaves it
pub nothing_leaves : (net : Parts) (care : CareSet) → care.invariant ≡ None → leaves_refusal net care ≡ None
nothing_leaves net care lacks = grind (arith, find_none-all (leaves net care) (care_vectors net care))
