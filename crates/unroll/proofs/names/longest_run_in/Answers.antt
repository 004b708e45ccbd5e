use Rattle.std.proofs.Common.{arith}
use Rattle.unroll.proofs.MarkLemmas.{with_clock}
use Rattle.unroll.proofs.names.longest_run_in.Goals as goal

pub returns-in-Some : goal.returns-in-Some
returns-in-Some c = grind (arith, with_clock)
