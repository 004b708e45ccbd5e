-- The gates stay below the fixpoint, and the work falls, whether the gate is determined or not.
use Rattle.std.proofs.Common.{length, arith}
use Rattle.cyc_base.proofs.ListLemmas.{empty_list}
use Rattle.ternary_run.proofs.SettlingLemmas.{settling_starts_at, settled_at, gate_unchanged_at, gate_determined_at, determined_falls_at, unchanged_falls_at, waiting_gate, length-settling}
use Rattle.ternary_run.proofs.fanout.Fanout.settle.Goals as goal

pub loop-gate-init : goal.loop-gate-init
loop-gate-init c = grind (arith, settling_starts_at)

pub new_value-requires-clause-width : goal.new_value-requires-clause-width
new_value-requires-clause-width c = grind (arith, length-settling c.args.net.now c.args.given.now c.loop-gate.values.items c.loop-gate.queue.items c.requires.width c.loop-gate.invariant)

pub new_value-requires-clause-gate : goal.new_value-requires-clause-gate
new_value-requires-clause-gate c = waiting_gate c.args.net.now c.args.given.now c.loop-gate.values.items c.in-Some.gate c.loop-gate.queue.items c.pop_front.new.self.items c.in-Some.ensures.items c.loop-gate.invariant

pub index_mut-requires : goal.index_mut-requires
index_mut-requires c =
    let net = c.args.net.now in
    let values = c.loop-gate.values.items in
    let queue = c.loop-gate.queue.items in
    grind (arith, waiting_gate net c.args.given.now values c.in-Some.gate queue c.pop_front.new.self.items c.in-Some.ensures.items c.loop-gate.invariant, length-settling net c.args.given.now values queue c.requires.width c.loop-gate.invariant)

pub loop-gate-smaller-in-Continue-branch-5 : goal.loop-gate-smaller-in-Continue-branch-5
loop-gate-smaller-in-Continue-branch-5 c =
    determined_falls_at c.args.net.now c.args.given.now c.loop-gate.values.items c.in-Some.gate c.loop-gate.queue.items c.pop_front.new.self.items
    c.args.self.now c.in_ok-value.field-0 c.in-Some-2.value c.gate_sig-signal.result c.queue_readers.new.queue.items
    c.requires.width c.in-Some.ensures.items c.in-Some-2.is c.gate_sig-signal.ensures.sig c.in_ok-queue_readers.ensures
    c.loop-gate.invariant (rw c.deref.ensures.value at c.in_ok-value.ensures)

pub loop-gate-preserved-in-Continue-branch-5 : goal.loop-gate-preserved-in-Continue-branch-5
loop-gate-preserved-in-Continue-branch-5 c =
    gate_determined_at c.args.net.now c.args.given.now c.loop-gate.values.items c.in-Some.gate c.loop-gate.queue.items c.pop_front.new.self.items
    c.args.self.now c.in_ok-value.field-0 c.in-Some-2.value c.gate_sig-signal.result c.queue_readers.new.queue.items
    c.requires.width c.requires.readers c.in-Some.ensures.items c.in-Some-2.is c.gate_sig-signal.ensures.sig c.in_ok-queue_readers.ensures
    c.loop-gate.invariant (rw c.deref.ensures.value at c.in_ok-value.ensures)

pub loop-gate-smaller : goal.loop-gate-smaller
loop-gate-smaller c = unchanged_falls_at (length c.args.self.now) c.loop-gate.values.items c.in-Some.gate c.loop-gate.queue.items c.pop_front.new.self.items c.in-Some.ensures.items

pub loop-gate-preserved : goal.loop-gate-preserved
loop-gate-preserved c = grind (arith, gate_unchanged_at)

pub returns : goal.returns
returns c = grind (arith, empty_list c.loop-gate.queue.items, settled_at c.args.net.now c.args.given.now c.loop-gate.values.items c.loop-gate.queue.items)
