use Rattle.verdict.proofs.Common.{AreDriversBefore}
use Rattle.verdict.proofs.scopes.drivers_read.Given as goal

abbrev pub invariant-loop-column : goal.invariant-loop-column
invariant-loop-column l = AreDriversBefore l.net l.column-items l.column-index l.gates.items
