use Rattle.std.proofs.Common.{◌≡◌, fold, take, false}
use Rattle.aig_core.proofs.Common.{IsEdge, Extends, found, constant, with_row}
use Rattle.aig_core.proofs.covers.rows_edge.Given as goal

abbrev pub invariant-loop-row : goal.invariant-loop-row
invariant-loop-row l = record {
  made : found l.aig l.edge ≡ fold (with_row l.pins) (found l.initial.aig (constant false)) (take l.row-index l.rows);
  edge : IsEdge l.aig l.edge;
  extends : Extends l.initial.aig l.aig;
}
