use Rattle.std.proofs.Common.{◌≡◌, ◌++◌, drop}
use Rattle.ternary_run.specs.Reading.{reads_from, reads}
use Rattle.ternary_run.proofs.fanout.all_reads.Given as goal

-- what is read so far, and then what is still to be read
abbrev pub invariant-loop-number : goal.invariant-loop-number
invariant-loop-number l = l.reads.items ++ reads_from l.number (drop l.number l.net.gates) ≡ reads l.net
