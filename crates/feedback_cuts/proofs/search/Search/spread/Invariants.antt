use Rattle.feedback_cuts.proofs.Common.{work_left}
use Rattle.feedback_cuts.specs.Searching.{IsSearching}
use Rattle.feedback_cuts.proofs.search.Search.spread.Given as goal

abbrev pub invariant-loop-self : goal.invariant-loop-self
invariant-loop-self l = IsSearching l.rows l.levels l.high l.goal l.row l.fn.self.marks.items l.self.marks.items l.self.found.items l.passed

abbrev pub decreases-loop-self : goal.decreases-loop-self
decreases-loop-self l = work_left l.goal l.self.marks.items l.self.found.items l.passed
