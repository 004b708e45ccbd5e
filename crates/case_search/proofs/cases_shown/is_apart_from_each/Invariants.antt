use Rattle.std.proofs.Common.{◌≡◌, take}
use Rattle.case_search.specs.Cases.{IsApartFromEach, ToldBy}
use Rattle.case_search.proofs.cases_shown.is_apart_from_each.Given as goal

abbrev pub invariant-loop-other : goal.invariant-loop-other
invariant-loop-other l = record {
  unchanged : l.questions ≡ l.fn.questions;
  told : ToldBy l.fn.questions (IsApartFromEach l.case (take l.other-index l.others));
}
