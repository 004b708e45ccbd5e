use Rattle.feedback_cuts.specs.Searching.{Follows}
use Rattle.feedback_cuts.proofs.search.Search.follow.Given as goal

abbrev pub invariant-loop-gate : goal.invariant-loop-gate
invariant-loop-gate l = Follows l.levels l.high l.goal l.row l.gate-index l.initial.self.marks.items l.self.marks.items l.initial.self.found.items l.self.found.items
