use Rattle.std.proofs.Common.{◌*◌}
use Rattle.diagram_decision.proofs.Common.{HasGrown, IsWide, IsLaid}
use Rattle.diagram_decision.proofs.NextLemmas.{AreFirstNext}
use Rattle.diagram_decision.proofs.next.next_on.Given as goal

abbrev pub invariant-loop-number : goal.invariant-loop-number
invariant-loop-number l = record {
  grows : HasGrown l.fn.d l.d (IsWide l.fn.d.vars (IsLaid l.question.net l.question.care)) (2 * l.number);
  first : AreFirstNext l.question.net l.fn.d l.found.set l.d l.number l.list.items;
}
