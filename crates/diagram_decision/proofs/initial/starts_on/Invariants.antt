use Rattle.std.proofs.Common.{◌-◌}
use Rattle.diagram_decision.proofs.Common.{HasGrown, columns, BoundsStarts}
use Rattle.diagram_decision.proofs.StartLemmas.{TellsLater}
use Rattle.diagram_decision.proofs.initial.starts_on.Given as goal

abbrev pub invariant-loop-variable : goal.invariant-loop-variable
invariant-loop-variable l = record {
  grows : HasGrown l.fn.d l.d (BoundsStarts l.net) (columns l.net - l.variable);
  later : TellsLater l.net l.d l.set l.variable;
}
