use Rattle.std.proofs.Common.{◌≡◌, drop}
use Rattle.refusals.specs.Refusals.{is_initial}
use Rattle.refusals.proofs.ShowingLemmas.{all_may_start}
use Rattle.refusals.proofs.showing.is_initial.Given as goal

-- the answer is that of the latches that are left
abbrev pub invariant-loop-number : goal.invariant-loop-number
invariant-loop-number l = all_may_start (drop l.number l.net.latches) (drop l.number l.state) ≡ is_initial l.net l.state
