use Rattle.std.proofs.Common.{◌≤◌, ◌-◌}
use Rattle.explanations.specs.Search.{IsSearching}
use Rattle.explanations.proofs.search.search.Given as goal

abbrev pub invariant-loop-depth : goal.invariant-loop-depth
invariant-loop-depth l = IsSearching l.graph l.root l.depth l.level.items l.steps.items × (l.depth ≤ l.limit)

abbrev pub decreases-loop-depth : goal.decreases-loop-depth
decreases-loop-depth l = l.limit - l.depth
