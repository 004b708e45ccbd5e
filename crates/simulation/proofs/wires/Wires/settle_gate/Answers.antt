-- The gate has the value of its cover, where all that it reads is settled.
use Rattle.std.proofs.Common.{◌≡◌, ◌+◌, List, set, sym, subst, arith}
use Rattle.simulation.proofs.Common.{Trit, gate_at, gate_sig, gate_value, AreSettled}
use Rattle.simulation.proofs.GateLemmas.{cleared, gate_settled}
use Rattle.simulation.proofs.LoadLemmas.{vector-set}
use Rattle.simulation.proofs.wires.Wires.settle_gate.Goals as goal

pub returns-clause-settled : goal.returns-clause-settled
returns-clause-settled c =
    let net = c.args.net.now in
    let plan = c.args.plan.now in
    let values = c.args.self.now.values.items in
    let g = c.args.gate in
    let place = c.args.place in
    grind (arith, gate_settled net c.requires.plan.netlist plan.blocks c.requires.plan.blocks values place g c.requires.kept.width c.requires.settled c.requires.gate c.requires.home c.requires.single)

pub returns-clause-kept : goal.returns-clause-kept
returns-clause-kept c =
    let net = c.args.net.now in
    let plan = c.args.plan.now in
    let values = c.args.self.now.values.items in
    let g = c.args.gate in
    let place = c.args.place in
    let after : c.change.new.self.values.items ≡ set values (gate_sig net g).0 (gate_value values (gate_at net g)) =
    rw (c.in_ok-value.ensures.values, c.gate_sig.ensures.sig, c.in_ok-value.ensures.value) at c.change.ensures.values in
    cleared net c.requires.plan.netlist plan.blocks c.requires.plan.blocks c.change.new.self.values.items c.change.new.self.due.items place c.change.ensures.kept
    (subst (λ (new : List Trit). AreSettled net plan.blocks new (place + 1)) (sym after)
    (gate_settled net c.requires.plan.netlist plan.blocks c.requires.plan.blocks values place g c.requires.kept.width c.requires.settled c.requires.gate c.requires.home c.requires.single))

pub change-requires-clause-kept : goal.change-requires-clause-kept
change-requires-clause-kept c = rw (c.in_ok-value.ensures.values, c.in_ok-value.ensures.due) c.requires.kept

pub change-requires-clause-due : goal.change-requires-clause-due
change-requires-clause-due c = grind arith

pub returns-clause-vector : goal.returns-clause-vector
returns-clause-vector c =
    let net = c.args.net.now in
    let values = c.args.self.now.values.items in
    let g = c.args.gate in
    grind (arith, vector-set net values g (gate_value values (gate_at net g)))

pub returns-in_err-value-clause-kept : goal.returns-in_err-value-clause-kept
returns-in_err-value-clause-kept c = rw (c.value_of.ensures.values, c.value_of.ensures.due) c.requires.kept
