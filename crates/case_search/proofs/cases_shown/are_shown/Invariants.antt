use Rattle.std.proofs.Common.{◌≡◌}
use Rattle.case_search.specs.Cases.{AreShown, ToldBy}
use Rattle.case_search.proofs.cases_shown.are_shown.Given as goal

abbrev pub invariant-loop-place : goal.invariant-loop-place
invariant-loop-place l = record {
  unchanged : l.questions ≡ l.fn.questions;
  told : ToldBy l.fn.questions (AreShown l.cases l.place);
}
