use Rattle.std.proofs.Common.{◌≡◌, ◌*◌, ◌≤◌}
use Rattle.diagram_decision.proofs.Common.{HasGrown, IsWide, IsLaid}
use Rattle.diagram_decision.proofs.PartLemmas.{AreKnownBelow, loose_below}
use Rattle.diagram_decision.proofs.refusing.verdict_of_gates.Given as goal

abbrev pub invariant-loop-gate : goal.invariant-loop-gate
invariant-loop-gate l = record {
  grows : HasGrown l.fn.d l.d (IsWide l.fn.d.vars (IsLaid l.question.net l.question.care)) (2 * l.gate);
  known : AreKnownBelow l.question.net l.question.care l.observed.items l.gate;
  loose : l.loose ≡ loose_below l.question.net l.question.care l.gate;
  few : l.loose ≤ l.gate;
}
