use Rattle.std.proofs.Common.{◌++◌, map, take}
use Rattle.diagram_decision.proofs.Common.{Latch, AreMarksOf}
use Rattle.diagram_decision.proofs.observing.mark_outputs.Given as goal

abbrev pub invariant-loop-signal : goal.invariant-loop-signal
invariant-loop-signal l = AreMarksOf l.net (take l.signal-index l.signal-items) l.marks

abbrev pub invariant-loop-number : goal.invariant-loop-number
invariant-loop-number l = AreMarksOf l.net (l.net.outputs ++ take l.number (map (λ (latch : Latch). latch.from) l.net.latches)) l.marks
