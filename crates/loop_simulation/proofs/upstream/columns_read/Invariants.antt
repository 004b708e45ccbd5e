use Rattle.std.proofs.Common.{◌<◌}
use Rattle.std.specs.List.{All}
use Rattle.loop_simulation.proofs.Common.{columns}
use Rattle.loop_simulation.proofs.upstream.columns_read.Given as goal

abbrev pub invariant-loop-column : goal.invariant-loop-column
invariant-loop-column l = All (λ column. column < columns l.net) l.list.items
