use Rattle.std.proofs.Common.{◌≡◌, ◌≤◌}
use Rattle.verdict.proofs.Common.{CareSet, observed, Observe, AreUnknownMarks, AreMarksOf}
use Rattle.diagram_decision.proofs.PartLemmas.{AreKnownBelow, loose_below}
use Rattle.verdict.proofs.unknown.count_loose.Given as goal

abbrev pub invariant-loop-gate : goal.invariant-loop-gate
invariant-loop-gate l = record {
  known : (care : CareSet) (what : Observe) → AreMarksOf l.net (observed l.net what) l.observed → AreUnknownMarks l.net care l.unknown → AreKnownBelow l.net care l.observed l.gate;
  loose : (care : CareSet) → AreUnknownMarks l.net care l.unknown → l.loose ≡ loose_below l.net care l.gate;
  few : l.loose ≤ l.gate;
}
