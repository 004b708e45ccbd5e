-- What is decided without the gates: initial states and the care set.
use Rattle.std.proofs.Common.{◌≡◌, Bool, true, false, not, List, length, Option, Some, None, sym, ap, ◌∙◌, arith}
use Rattle.verdict.proofs.Common.{find, is_none, is_some, option_map, vectors, Parts, CareSet, columns, is_in_invariant, is_care_vector, Observe, Initial, EmptyCare, initial_refusal, refusal, MayGoOn}
use Rattle.refusals.specs.Refusals.{is_initial}
use Rattle.refusals.proofs.FirstLemmas.{find-filter}
use Rattle.refusals.specs.Tests.{is_outside}
use Rattle.diagram_decision.proofs.VerdictLemmas.{refused-initial, refused-empty, empty-is}

-- the refusal is that of the first permitted state outside the invariant
pub initial-first : (net : Parts) (care : CareSet) → initial_refusal net care ≡ option_map Initial (find (is_outside net care) (vectors (length net.latches)))
initial-first net care = ap (option_map Initial) (find-filter (λ q. not (is_in_invariant care q)) (is_initial net) (vectors (length net.latches)))

pub initial-none : (net : Parts) (care : CareSet) → find (is_outside net care) (vectors (length net.latches)) ≡ None → initial_refusal net care ≡ None
initial-none net care none = initial-first net care ∙ ap (option_map Initial) none

pub initial-refuses : (net : Parts) (care : CareSet) (what : Observe) (q : List Bool) → find (is_outside net care) (vectors (length net.latches)) ≡ Some q → refusal net care what ≡ Some (Initial q)
initial-refuses net care what q found = refused-initial net care what (Initial q) (sym (initial-first net care ∙ ap (option_map Initial) found))

-- whether there is a care vector
some-none : (o : Option (List Bool)) → is_none o ≡ not (is_some o)
some-none o = grind arith

pub care-some : (net : Parts) (care : CareSet) → is_some (find (is_care_vector net care) (vectors (columns net))) ≡ true → initial_refusal net care ≡ None → MayGoOn net care
care-some net care is initial = record { initial = initial; some = empty-is net care false (sym (some-none _ ∙ ap not is)) }

pub care-none : (net : Parts) (care : CareSet) (what : Observe) → is_some (find (is_care_vector net care) (vectors (columns net))) ≡ false → initial_refusal net care ≡ None → refusal net care what ≡ Some EmptyCare
care-none net care what is initial = refused-empty net care what initial (empty-is net care true (sym (some-none _ ∙ ap not is)))
