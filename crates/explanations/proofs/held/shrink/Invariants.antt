use Rattle.explanations.specs.Held.{IsShrinking, looks_left}
use Rattle.explanations.proofs.held.shrink.Given as goal

abbrev pub invariant-loop-gate : goal.invariant-loop-gate
invariant-loop-gate l = IsShrinking l.net l.known l.initial.marks l.marks l.queue.items

abbrev pub decreases-loop-gate : goal.decreases-loop-gate
decreases-loop-gate l = looks_left l.fanout l.marks l.queue.items
