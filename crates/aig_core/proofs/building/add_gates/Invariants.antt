use Rattle.std.proofs.Common.{◌≡◌, take}
use Rattle.aig_core.proofs.Common.{Building, building, HasEdges}
use Rattle.aig_core.proofs.building.add_gates.Given as goal

abbrev pub invariant-loop-number : goal.invariant-loop-number
invariant-loop-number l = record {
  made : ◌≡◌ {A = Building} (record { graph = l.aig; edges = l.edges }) (building l.net (take l.number-index l.gates));
  has : HasEdges l.net l.aig l.edges;
}
