use Rattle.std.proofs.Common.{take}
use Rattle.case_split.specs.Tables.{AreCopySteps}
use Rattle.case_split.proofs.tables.copy_gates.Given as goal

abbrev pub invariant-loop-gate : goal.invariant-loop-gate
invariant-loop-gate l = AreCopySteps l.base.net.now (take l.gate-index l.gates) l.fn.added.gates.items l.added.gates.items l.fn.table.items l.table.items
