use Rattle.std.proofs.Common.{◌≡◌, ◌++◌, None, arith}
use Rattle.flatten.proofs.Common.{own_clocks, twice_after, latch_outputs, lines_of}
use Rattle.flatten.proofs.Gathering.{latch_twice, gate_twice, none_twice}
use Rattle.flatten.proofs.Results.{handed_on}
use Rattle.flatten.proofs.link.add_drivers.Goals as goal
use Rattle.flatten.proofs.link.add_drivers.Goals.{In_ok-add_latches}

-- the drivers up to the latches, of which none comes twice
all : (c : In_ok-add_latches) → c.add_latches.new.set.keys ≡ (c.args.top.now.inputs ++ own_clocks c.args.top.now) ++ latch_outputs (lines_of c.args.lines.now)
all c = rw (c.in_ok-clocks.ensures.all, c.deref.ensures.value) at c.in_ok-add_latches.ensures.all

once : (c : In_ok-add_latches) → twice_after (c.args.top.now.inputs ++ own_clocks c.args.top.now) (latch_outputs (lines_of c.args.lines.now)) ≡ None
once c = rw (c.in_ok-clocks.ensures.all, c.deref.ensures.value) at c.in_ok-add_latches.ensures.once

pub returns-in_err-add_inputs-clause-fault : goal.returns-in_err-add_inputs-clause-fault
returns-in_err-add_inputs-clause-fault c = grind arith

pub returns-in_err-add_latches-clause-fault : goal.returns-in_err-add_latches-clause-fault
returns-in_err-add_latches-clause-fault c =
    let declared = c.in_ok-add_inputs.ensures.once in
    handed_on _ c.from_residual-in_err-add_latches.result _ c.from_residual-in_err-add_latches.ensures.1 c.in_err-add_latches.ensures.fault
    (λ e. rw declared (latch_twice c.args.top.now (lines_of c.args.lines.now) c.in_ok-add_inputs.ensures.inputs c.in_err-add_latches.field-0.0 (rw (c.in_ok-clocks.ensures.all, c.deref.ensures.value) at e)))

pub returns-in_err-add_gates-clause-fault : goal.returns-in_err-add_gates-clause-fault
returns-in_err-add_gates-clause-fault c =
    let latches = (goal.at.returns-in_err-add_gates-clause-fault c).In_ok-add_latches in
    let declared = c.in_ok-add_inputs.ensures.once in
    handed_on _ c.from_residual-in_err-add_gates.result _ c.from_residual-in_err-add_gates.ensures.1 c.in_err-add_gates.ensures.fault
    (λ e. rw declared (gate_twice c.args.top.now (lines_of c.args.lines.now) c.in_ok-add_inputs.ensures.inputs c.in_err-add_gates.field-0.0 (once latches) (rw (all latches, c.deref-2.ensures.value) at e)))

pub returns-clause-once : goal.returns-clause-once
returns-clause-once c =
    let latches = (goal.at.returns-clause-once c).In_ok-add_latches in
    let declared = c.in_ok-add_inputs.ensures.once in
    rw declared (none_twice c.args.top.now (lines_of c.args.lines.now) c.in_ok-add_inputs.ensures.inputs (once latches) (rw (all latches, c.deref-2.ensures.value) at c.in_ok-add_gates.ensures.once))
