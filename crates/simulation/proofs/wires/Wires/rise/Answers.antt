-- The gate becomes known, and those that read it wait once more; or it needs to wait no longer.
use Rattle.std.proofs.Common.{◌≡◌, true, set, refl, arith}
use Rattle.simulation.proofs.Common.{is_due}
use Rattle.simulation.proofs.LoadLemmas.{vector-set}
use Rattle.simulation.proofs.LoopLemmas.{gate_determined_at, determined_falls_at, gate_unchanged, unchanged_falls, waiting_gate}
use Rattle.simulation.proofs.wires.Wires.rise.Goals as goal

pub new_value-requires-clause-gate : goal.new_value-requires-clause-gate
new_value-requires-clause-gate c = c.requires.rising.gates c.args.gate (0, omega arith, refl)

pub gate_sig-signal-requires : goal.gate_sig-signal-requires
gate_sig-signal-requires c = grind (arith, waiting_gate c.args.net.now c.args.plan.now c.args.worklist.now.place c.args.self.now.values.items c.args.self.now.due.items c.args.gate c.args.worklist.now.gates.items c.requires.rising)

pub change-requires-clause-signal : goal.change-requires-clause-signal
change-requires-clause-signal c = grind (arith, waiting_gate c.args.net.now c.args.plan.now c.args.worklist.now.place c.args.self.now.values.items c.args.self.now.due.items c.args.gate c.args.worklist.now.gates.items c.requires.rising)

pub successors-readers-requires : goal.successors-readers-requires
successors-readers-requires c = grind (arith, waiting_gate c.args.net.now c.args.plan.now c.args.worklist.now.place c.args.self.now.values.items c.args.self.now.due.items c.args.gate c.args.worklist.now.gates.items c.requires.rising)

pub returns-in_ok-push_inside-clause-rising : goal.returns-in_ok-push_inside-clause-rising
returns-in_ok-push_inside-clause-rising c =
    let net = c.args.net.now in
    let plan = c.args.plan.now in
    let place = c.args.worklist.now.place in
    let values = c.args.self.now.values.items in
    let after : c.change.new.self.values.items ≡ set values c.gate_sig-signal.result.0 c.in-Some.value = rw c.in_ok-value.ensures.values at c.change.ensures.values in
    let due : is_due c.new_value.new.self.due.items place ≡ true = rw c.in_ok-value.ensures.due c.requires.rising.unsettled in
    gate_determined_at net plan place values c.change.new.self.values.items c.args.self.now.due.items c.change.new.self.due.items c.args.gate c.args.worklist.now.gates.items c.push_inside.new.self.gates.items
    c.in_ok-value.field-0 c.in-Some.value c.gate_sig-signal.result c.successors-readers.result.now c.items.result.now c.requires.plan c.requires.rising c.in_ok-value.ensures.value
    c.in-Some.is c.gate_sig-signal.ensures.sig after c.successors-readers.ensures c.items.ensures c.in_ok-push_inside.ensures.gates c.change.ensures.kept (c.change.ensures.due place due)

pub returns-in_ok-push_inside-clause-less : goal.returns-in_ok-push_inside-clause-less
returns-in_ok-push_inside-clause-less c =
    let net = c.args.net.now in
    let plan = c.args.plan.now in
    let values = c.args.self.now.values.items in
    let after : c.change.new.self.values.items ≡ set values c.gate_sig-signal.result.0 c.in-Some.value = rw c.in_ok-value.ensures.values at c.change.ensures.values in
    determined_falls_at net plan c.args.worklist.now.place values c.change.new.self.values.items c.args.self.now.due.items c.args.gate c.args.worklist.now.gates.items c.push_inside.new.self.gates.items
    c.in_ok-value.field-0 c.in-Some.value c.gate_sig-signal.result c.successors-readers.result.now c.items.result.now c.requires.rising c.in_ok-value.ensures.value
    c.in-Some.is c.gate_sig-signal.ensures.sig after c.successors-readers.ensures c.items.ensures c.in_ok-push_inside.ensures.gates

pub returns-in_default-clause-rising : goal.returns-in_default-clause-rising
returns-in_default-clause-rising c =
    let net = c.args.net.now in
    grind (arith, gate_unchanged net c.args.plan.now c.args.worklist.now.place c.args.self.now.values.items c.args.self.now.due.items c.args.gate c.args.worklist.now.gates.items c.requires.rising)

pub change-requires-clause-kept : goal.change-requires-clause-kept
change-requires-clause-kept c = rw (c.in_ok-value.ensures.values, c.in_ok-value.ensures.due) c.requires.rising.kept

pub change-requires-clause-due : goal.change-requires-clause-due
change-requires-clause-due c = grind arith

pub returns-in_ok-push_inside-clause-kept : goal.returns-in_ok-push_inside-clause-kept
returns-in_ok-push_inside-clause-kept c = c.change.ensures.kept

pub returns-in_ok-push_inside-clause-vector : goal.returns-in_ok-push_inside-clause-vector
returns-in_ok-push_inside-clause-vector c =
    let values = c.args.self.now.values.items in
    grind (arith, vector-set c.args.net.now values c.args.gate c.in-Some.value)

pub returns-in_err-push_inside-clause-kept : goal.returns-in_err-push_inside-clause-kept
returns-in_err-push_inside-clause-kept c = c.change.ensures.kept

pub returns-in_err-push_inside-clause-vector : goal.returns-in_err-push_inside-clause-vector
returns-in_err-push_inside-clause-vector c =
    let values = c.args.self.now.values.items in
    grind (arith, vector-set c.args.net.now values c.args.gate c.in-Some.value)

pub returns-in_default-clause-kept : goal.returns-in_default-clause-kept
returns-in_default-clause-kept c = rw (c.in_ok-value.ensures.values, c.in_ok-value.ensures.due) c.requires.rising.kept

pub returns-in_default-clause-vector : goal.returns-in_default-clause-vector
returns-in_default-clause-vector c = rw c.in_ok-value.ensures.values refl

pub returns-in_default-clause-less : goal.returns-in_default-clause-less
returns-in_default-clause-less c = rw c.in_ok-value.ensures.values (unchanged_falls c.args.plan.now c.args.self.now.values.items c.args.gate c.args.worklist.now.gates.items)

pub returns-in_err-value-clause-kept : goal.returns-in_err-value-clause-kept
returns-in_err-value-clause-kept c = rw (c.new_value.ensures.values, c.new_value.ensures.due) c.requires.rising.kept

pub returns-in_err-value-clause-vector : goal.returns-in_err-value-clause-vector
returns-in_err-value-clause-vector c = rw c.new_value.ensures.values refl
