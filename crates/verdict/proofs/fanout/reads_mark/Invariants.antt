use Rattle.verdict.proofs.FanoutLemmas.{NoDriver}
use Rattle.verdict.proofs.fanout.reads_mark.Given as goal

abbrev pub invariant-loop-pin : goal.invariant-loop-pin
invariant-loop-pin l = NoDriver l.net l.marks l.pin-items l.pin-index
