use Rattle.std.proofs.Common.{◌+◌, ◌-◌, ◌*◌}
use Rattle.dual_rail.proofs.expand.ClassedRows.+expand.Given as goal

abbrev pub decreases-expand : goal.decreases-expand
decreases-expand l = 2 * (l.store.now.vars - l.live.pin) + 1

abbrev pub decreases-branch : goal.decreases-branch
decreases-branch l = 2 * (l.store.now.vars - l.live.now.pin)
