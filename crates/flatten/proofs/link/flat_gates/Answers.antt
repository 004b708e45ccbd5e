use Rattle.std.proofs.Common.{[], ◌∷◌, ℕ, List, map, ap, append_assoc, arith}
use Rattle.flatten.proofs.Common.{flat_map, GateLine, gate_with, sig_or}
use Rattle.flatten.proofs.Reading.{fewer_left, fault_left}
use Rattle.flatten.proofs.Results.{handed_on}
use Rattle.flatten.proofs.link.flat_gates.Goals as goal

abbrev pins : List GateLine → List (List ℕ)
pins gates = flat_map (λ g. g.pins) gates

pub returns-in_err-flat_gate-clause-fault : goal.returns-in_err-flat_gate-clause-fault
returns-in_err-flat_gate-clause-fault c =
    handed_on _ c.from_residual-in_err-flat_gate.result _ c.from_residual-in_err-flat_gate.ensures.1 c.in_err-flat_gate.ensures.fault
    (λ h. fault_left c.args.drivers.now (pins c.args.gates.items) (pins c.loop-gate.gate-iterator) c.in-Some.gate.pins (pins c.next.new.self)
    c.args.clock.now c.loop-gate.clock c.in_err-flat_gate.field-0.0 (ap pins c.in-Some.ensures.steps) c.loop-gate.invariant.left h)

pub loop-gate-preserved : goal.loop-gate-preserved
loop-gate-preserved c =
    let d = c.args.drivers.now in
    let gate = c.in-Some.gate in
    let rest = c.next.new.self in
    let before = c.loop-gate.flat.items in
    grind (arith, append_assoc before (gate_with (sig_or d) gate ∷ []) (map (gate_with (sig_or d)) rest), fewer_left d (pins c.args.gates.items) (pins c.loop-gate.gate-iterator) gate.pins (pins rest) c.args.clock.now c.loop-gate.clock c.flat_gate.new.clock)

pub returns-clause-read : goal.returns-clause-read
returns-clause-read c = grind arith
