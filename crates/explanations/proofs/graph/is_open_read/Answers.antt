use Rattle.std.proofs.Common.{arith}
use Rattle.std.proofs.lemmas.List.{length-map}
use Rattle.netlist.specs.Fixpoint.{wire}
use Rattle.explanations.proofs.GraphLemmas.{unknown_there, open_read}
use Rattle.explanations.proofs.graph.is_open_read.Goals as goal

pub matters-requires-clause-unknown : goal.matters-requires-clause-unknown
matters-requires-clause-unknown c = grind (arith, unknown_there c.args.known.now c.args.gate.now.pins c.args.pin)

pub returns : goal.returns
returns c = grind (arith, open_read c.args.first c.args.known.now c.args.gate.now c.args.pin)

pub matters-requires-clause-size : goal.matters-requires-clause-size
matters-requires-clause-size c =
    let pins = c.args.gate.now.pins in
    grind (arith, length-map pins (wire c.args.known.now))
