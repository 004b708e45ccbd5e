use Rattle.std.proofs.Common.{◌≡◌, ◌++◌}
use Rattle.flatten.proofs.Common.{own_gates, own_latches}
use Rattle.flatten.proofs.alone.add_lines.Given as goal

abbrev pub invariant-loop-item : goal.invariant-loop-item
invariant-loop-item l = record {
  gates : l.lines.gates.items ++ own_gates l.item-iterator ≡ own_gates l.fn.body.items;
  latches : l.lines.latches.items ++ own_latches l.item-iterator ≡ own_latches l.fn.body.items;
}
