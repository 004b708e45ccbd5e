use Rattle.std.proofs.Common.{◌≤◌, ◌-◌, length}
use Rattle.assumptions.specs.declared.search.TheConstants.{MAX_ROWS}
use Rattle.assumptions.specs.Assumptions.{AreFound}
use Rattle.assumptions.proofs.search.search.Given as goal

abbrev pub invariant-loop-rows : goal.invariant-loop-rows
invariant-loop-rows l = AreFound l.task.looped.now.net l.task.care.now l.task.observe l.rows.items × (length l.rows.items ≤ MAX_ROWS)

abbrev pub decreases-loop-rows : goal.decreases-loop-rows
decreases-loop-rows l = MAX_ROWS - length l.rows.items
