-- How the parts make the verdict.
use Rattle.std.proofs.Common.{◌≡◌, ◌+◌, Bool, List, [], length, map, drop, Option, Some, None, sym, ap, ap₂, ◌∙◌, arith}
use Rattle.diagram_decision.proofs.Common.{find, is_none, Arena, bit, bits, Rails, values_of, Parts, IsNetlist, fix, fix_gates, Blocks, Cut, rails_under, Vectors, IsSolution, AreColumnVectors, CareSet, columns, state_of, is_care_vector, Refusal, EmptyCare, Observe, initial_refusal, refusal, vectors, empty-filter, AreFixed, AreColumns, order, laid}
use Rattle.std.specs.Prelude.{if◌then◌else◌}
use Rattle.std.proofs.lemmas.List.{length-append, drop-map}
use Rattle.netlist.proofs.FixpointLemmas.{length-fix_gates}
use Rattle.dual_rail.proofs.SurelyLemmas.{length-values}
use Rattle.fixpoint.specs.declared.solved.Solved.{Solved}
use Rattle.refusals.specs.Acceptance.{Accepts}
use Rattle.refusals.specs.Refusals.{empty_refusal}
use Rattle.refusals.proofs.LawLemmas.{accepted_without_refusal}
use Rattle.diagram_decision.specs.Judgements.{refusal_on_care}

-- ---- which part decides

pub refused-initial : (net : Parts) (care : CareSet) (what : Observe) (r : Refusal) → Some r ≡ initial_refusal net care → refusal net care what ≡ Some r
refused-initial net care what r is = grind arith

pub refused-empty : (net : Parts) (care : CareSet) (what : Observe) → initial_refusal net care ≡ None → empty_refusal net care ≡ Some EmptyCare → refusal net care what ≡ Some EmptyCare
refused-empty net care what initial is = grind arith

pub refused-on-care : (net : Parts) (care : CareSet) (what : Observe) (found : Option Refusal) → initial_refusal net care ≡ None → empty_refusal net care ≡ None → refusal_on_care net care what ≡ found →
    refusal net care what ≡ found
refused-on-care net care what found initial empty is = grind arith

pub accepts-is : (net : Parts) (care : CareSet) (what : Observe) → IsNetlist net → refusal net care what ≡ None → Accepts net care what
accepts-is net care what valid none = (accepted_without_refusal net care what valid).0 none

-- whether there is a care vector
pub empty-is : (net : Parts) (care : CareSet) (b : Bool) → b ≡ is_none (find (is_care_vector net care) (vectors (columns net))) → empty_refusal net care ≡ (let nothing : Option Refusal = None in if b then Some EmptyCare else nothing)
empty-is net care b is = ap (λ t. let nothing : Option Refusal = None in if t then Some EmptyCare else nothing) (empty-filter (is_care_vector net care) (vectors (columns net)) ∙ sym is)

-- ---- values

-- the latches' columns stand for the state
pub state-values : (net : Parts) (a : Arena) (rails latches : List Rails) (v : List Bool) → AreColumns a (order net) rails → latches ≡ drop (length net.inputs) rails → length v ≡ a.vars →
    values_of a latches (laid net v) ≡ bits (state_of net v)
state-values net a rails latches v are is wide = grind (arith, drop-map, drop-map bit (length net.inputs) v)

-- ---- the fixpoint at the columns

pub fixed-is : (net : Parts) (blocks : Blocks) (cut : Cut) (a : Arena) (points : Vectors) (solved : Solved) → AreColumnVectors net points → a.vars ≡ columns net → IsSolution net blocks cut a points solved →
    AreFixed net a (map (rails_under a) solved.rails)
fixed-is net blocks cut a points solved are vars is = record {
  width =
      sym (length-values a (map (rails_under a) solved.rails) [])
      ∙ ap length (is.values [])
      ∙ length-append (points []) (fix_gates net (points []))
      ∙ ap₂ (λ m n. m + n) (are.width []) (length-fix_gates net (points []));
  proper = is.rails;
  values = λ v wide. is.values (laid net v) ∙ ap (fix net) (are.laid_are v (wide ∙ vars));
}
