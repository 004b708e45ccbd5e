use Rattle.std.proofs.Common.{◌≡◌, drop}
use Rattle.sched_text.proofs.Common.{first_refused}
use Rattle.sched_text.proofs.bits.check_start.Given as goal

-- the latches so far may start with their values
abbrev pub invariant-loop-latch : goal.invariant-loop-latch
invariant-loop-latch l =
    first_refused 0 l.net.latches l.bits ≡ first_refused l.latch (drop l.latch l.net.latches) (drop l.latch l.bits)
