use Rattle.std.proofs.Common.{vec_len}
use Rattle.components.specs.Search.{IsCut}
use Rattle.components.proofs.search.merge.Given as goal

abbrev pub invariant-loop-group : goal.invariant-loop-group
invariant-loop-group l = IsCut l.initial.groups.items l.groups.items l.place

abbrev pub decreases-loop-group : goal.decreases-loop-group
decreases-loop-group l = vec_len l.groups
