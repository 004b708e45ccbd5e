use Rattle.std.proofs.Common.{◌-◌, length}
use Rattle.case_split.specs.Choices.{IsChosenUpTo}
use Rattle.case_split.proofs.choosing.choose_all.Given as goal

abbrev pub invariant-loop-first : goal.invariant-loop-first
invariant-loop-first l = IsChosenUpTo l.base.net.now l.cases l.leaves l.first l.fn.added.gates.items l.added.gates.items l.chosen

abbrev pub decreases-loop-first : goal.decreases-loop-first
decreases-loop-first l = length l.cases - l.first
