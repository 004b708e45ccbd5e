use Rattle.explanations.specs.Search.{HasVisited}
use Rattle.explanations.proofs.search.visit_all.Given as goal

abbrev pub invariant-loop-target : goal.invariant-loop-target
invariant-loop-target l =
    HasVisited l.from l.targets l.target-index l.depth l.initial.steps l.steps l.initial.found.items l.found.items
