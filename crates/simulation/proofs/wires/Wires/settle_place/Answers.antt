-- A stable block is settled where those before it are.
use Rattle.std.proofs.Common.{◌≡◌, false, true, sym, ◌∙◌, arith}
use Rattle.std.proofs.lemmas.List.{get_or_read}
use Rattle.simulation.proofs.Common.{is_due, vector_of}
use Rattle.simulation.proofs.PinLemmas.{length-vector}
use Rattle.simulation.proofs.BlockLemmas.{stable_settled}
use Rattle.simulation.proofs.GateLemmas.{at_fix}
use Rattle.simulation.proofs.wires.Wires.settle_place.Goals as goal

pub returns-else-index-clause-settled : goal.returns-else-index-clause-settled
returns-else-index-clause-settled c =
    let net = c.args.net.now in
    let blocks = c.args.plan.now.blocks in
    let place = c.args.place in
    let values = c.args.self.now.values.items in
    let due = c.args.self.now.due.items in
    let flags = c.requires.kept.flags in
    let stable : is_due due place ≡ false = sym (get_or_read due place c.index.result.now (omega arith) c.index.ensures true) ∙ c.if-index.false in
    let done =
    stable_settled net c.requires.plan.netlist blocks c.requires.plan.blocks (vector_of net values) values place (length-vector net values c.requires.kept.width)
    (at_fix net c.requires.plan.netlist blocks c.requires.plan.blocks values place c.requires.settled) (c.requires.kept.stable place stable) in
    record { each = done.gates }
