use Rattle.std.proofs.Common.{◌≡◌, take}
use Rattle.case_search.specs.Cases.{ForcesKnown, ToldBy}
use Rattle.case_search.proofs.cases_shown.forces_known.Given as goal

abbrev pub invariant-loop-value : goal.invariant-loop-value
invariant-loop-value l = record {
  unchanged : l.questions ≡ l.fn.questions;
  told : ToldBy l.fn.questions (λ net care. ForcesKnown net care l.case.cube.items (take l.value-index l.value-items));
}
