use Rattle.std.proofs.Common.{◌<◌, ◌≤◌, All, length}
use Rattle.case_search.proofs.cones.numbers_of.Given as goal

abbrev pub invariant-loop-gate : goal.invariant-loop-gate
invariant-loop-gate l = record {
  within : All (λ n. n < length l.own.gates) l.numbers.items;
  few : length l.numbers.items ≤ l.gate-index;
}
