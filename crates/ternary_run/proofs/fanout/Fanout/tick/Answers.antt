-- There is a value for each signal, and so for what the outputs and the latches read.
use Rattle.std.proofs.Common.{arith, length-append}
use Rattle.ternary_run.proofs.SettlingLemmas.{length-fix}
use Rattle.ternary_run.proofs.fanout.Fanout.tick.Goals as goal

pub values_of-requires : goal.values_of-requires
values_of-requires c = grind (arith, length-append, length-fix)

pub loaded-requires : goal.loaded-requires
loaded-requires c = grind (arith, length-append, length-fix)
