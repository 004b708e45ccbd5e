use Rattle.std.proofs.Common.{arith}
use Rattle.aig_core.proofs.BuildingLemmas.{signal_edges_are}
use Rattle.aig_core.proofs.building.add_gate.Goals as goal

pub cover_edge-requires : goal.cover_edge-requires
cover_edge-requires c =
    let net = c.args.net.now in
    grind (arith, signal_edges_are net c.args.aig.now c.args.edges.now c.items.result.now c.requires.has)
