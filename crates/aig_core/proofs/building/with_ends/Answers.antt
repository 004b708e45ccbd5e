use Rattle.std.proofs.Common.{map, ap, ◌∙◌, arith}
use Rattle.aig_core.proofs.Common.{Latch, signal_edge}
use Rattle.aig_core.proofs.BuildingLemmas.{sources_are}
use Rattle.cyc_base.proofs.ListLemmas.{map-map}
use Rattle.aig_core.proofs.building.with_ends.Goals as goal

pub signal_edges-requires-2-clause-signals : goal.signal_edges-requires-2-clause-signals
signal_edges-requires-2-clause-signals c = grind (arith, sources_are c.args.net.now c.outputs.ensures.valid)

pub returns : goal.returns
returns c =
    let net = c.args.net.now in
    let edge = signal_edge net c.args.edges.now in
    let outputs = c.of-outputs.ensures ∙ c.in_ok-signal_edges.ensures ∙ ap (map edge) c.outputs.ensures.outputs in
    let nexts = c.of-nexts.ensures ∙ c.in_ok-signal_edges-2.ensures ∙ ap (map edge) c.requires.sources ∙ map-map edge (λ (latch : Latch). latch.from) net.latches in
    (λ j. record { aig = c.args.aig; outputs = outputs j; nexts = nexts j })
