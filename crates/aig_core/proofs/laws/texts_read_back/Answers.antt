use Rattle.aig_core.proofs.CircuitLemmas.{bounded, ascii_reads, binary_reads}
use Rattle.aig_core.proofs.laws.texts_read_back.Goals as goal

pub returns-clause-ascii : goal.returns-clause-ascii
returns-clause-ascii c =
    let net = c.args.net.now in
    let built = c.args.built.now in
    ascii_reads net built (bounded net built c.count.result c.outputs.ensures.valid c.requires c.laws.ensures.sound c.inputs.ensures.columns c.count.ensures.count c.count.ensures.within)

pub returns-clause-binary : goal.returns-clause-binary
returns-clause-binary c =
    let net = c.args.net.now in
    let built = c.args.built.now in
    binary_reads net built (bounded net built c.count.result c.outputs.ensures.valid c.requires c.laws.ensures.sound c.inputs.ensures.columns c.count.ensures.count c.count.ensures.within)
