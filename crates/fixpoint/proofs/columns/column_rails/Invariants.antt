use Rattle.std.proofs.Common.{◌*◌}
use Rattle.bdd_store.proofs.GrowthLemmas.{HasGrownBy}
use Rattle.fixpoint.specs.Columns.{AreFirstColumns}
use Rattle.fixpoint.proofs.columns.column_rails.Given as goal

abbrev pub invariant-loop-variable : goal.invariant-loop-variable
invariant-loop-variable l = record {
  grows : HasGrownBy l.fn.d l.d (2 * l.variable);
  columns : AreFirstColumns l.d l.columns l.variable l.rails.items;
}
