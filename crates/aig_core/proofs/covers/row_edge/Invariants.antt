use Rattle.std.proofs.Common.{◌≡◌, fold, length, take, true}
use Rattle.aig_core.proofs.Common.{zip, IsEdge, Extends, found, constant}
use Rattle.aig_core.proofs.CoverLemmas.{with_pair}
use Rattle.aig_core.proofs.covers.row_edge.Given as goal

abbrev pub invariant-loop-pin : goal.invariant-loop-pin
invariant-loop-pin l = record {
  made : found l.aig l.edge ≡ fold with_pair (found l.initial.aig (constant true)) (take (length l.yielded) (zip l.pins l.lits));
  edge : IsEdge l.aig l.edge;
  extends : Extends l.initial.aig l.aig;
}
