use Rattle.std.proofs.Common.{◌≤◌, ◌-◌}
use Rattle.clause_decision.proofs.Common.{first_number, NeedAtLeast, gates_in, loops_in, IsSwept}
use Rattle.clause_decision.proofs.counting.count_sweeps.Given as goal

abbrev pub invariant-loop-sweeps : goal.invariant-loop-sweeps
invariant-loop-sweeps l = record {
  swept : IsSwept l.block.net l.care l.scope.gates (loops_in l.block) (gates_in l.block) l.swept (l.sweeps - first_number l.search.sign);
  first : first_number l.search.sign ≤ l.sweeps;
  low : l.sweeps ≤ l.needed;
  more : NeedAtLeast l.block.net (loops_in l.block) l.care (gates_in l.block) l.needed;
}
