use Rattle.std.proofs.Common.{◌≡◌, ◌++◌, subst, ℕ, List, map, sym, ap, ◌∙◌, None}
use Rattle.flatten.proofs.Common.{flat_map, GateLine, LatchLine, undriven_among, AreRead}
use Rattle.flatten.proofs.Reading.{undriven_front, undriven_behind, read_both}
use Rattle.flatten.proofs.Results.{handed_on}
use Rattle.flatten.proofs.link.fill_lines.Goals as goal

abbrev sources : List LatchLine → List (List ℕ)
sources latches = map (λ l. l.from) latches

abbrev pins : List GateLine → List (List ℕ)
pins gates = flat_map (λ g. g.pins) gates

pub returns-in_err-read_all-clause-fault : goal.returns-in_err-read_all-clause-fault
returns-in_err-read_all-clause-fault c =
    let d = c.args.drivers.now in
    let behind = sources c.args.lines.now.latches.items ++ pins c.args.lines.now.gates.items in
    handed_on _ c.from_residual.result _ c.from_residual.ensures.1 c.in_err-read_all.ensures.fault
    (λ h. undriven_front d c.args.top.now.outputs behind c.in_err-read_all.field-0.0 (ap (undriven_among d) (sym c.items.ensures) ∙ h))

pub returns-in_err-flat_latches-clause-fault : goal.returns-in_err-flat_latches-clause-fault
returns-in_err-flat_latches-clause-fault c =
    let d = c.args.drivers.now in
    let from = sources c.args.lines.now.latches.items in
    let read = pins c.args.lines.now.gates.items in
    let outputs : undriven_among d c.args.top.now.outputs ≡ None = ap (undriven_among d) (sym c.items.ensures) ∙ c.in_ok-read_all.ensures.read.driven in
    handed_on _ c.from_residual-in_err-flat_latches.result _ c.from_residual-in_err-flat_latches.ensures.1 c.in_err-flat_latches.ensures.fault
    (λ h. undriven_behind d c.args.top.now.outputs (from ++ read) outputs
    ∙ undriven_front d from read c.in_err-flat_latches.field-0.0 (rw c.deref.ensures.value at h))

pub returns-in_err-flat_gates-clause-fault : goal.returns-in_err-flat_gates-clause-fault
returns-in_err-flat_gates-clause-fault c =
    let d = c.args.drivers.now in
    let from = sources c.args.lines.now.latches.items in
    let read = pins c.args.lines.now.gates.items in
    let outputs : undriven_among d c.args.top.now.outputs ≡ None = ap (undriven_among d) (sym c.items.ensures) ∙ c.in_ok-read_all.ensures.read.driven in
    let latches = rw c.deref.ensures.value at c.in_ok-flat_latches.ensures.read.driven in
    handed_on _ c.from_residual-in_err-flat_gates.result _ c.from_residual-in_err-flat_gates.ensures.1 c.in_err-flat_gates.ensures.fault
    (λ h. undriven_behind d c.args.top.now.outputs (from ++ read) outputs
    ∙ undriven_behind d from read latches
    ∙ (rw c.replace-gates.ensures.value at h))

pub returns-clause-read : goal.returns-clause-read
returns-clause-read c =
    let d = c.args.drivers.now in
    let from = sources c.args.lines.now.latches.items in
    let read = pins c.args.lines.now.gates.items in
    let outputs = subst (λ (ns : List (List ℕ)). AreRead d ns c.args.clock.now c.read_all.new.clock) c.items.ensures c.in_ok-read_all.ensures.read in
    let latches = rw c.deref.ensures.value at c.in_ok-flat_latches.ensures.read in
    let gates = rw c.replace-gates.ensures.value at c.in_ok-flat_gates.ensures.read in
    let behind = read_both d from read c.read_all.new.clock c.flat_latches.new.clock c.flat_gates.new.clock latches gates in
    read_both d c.args.top.now.outputs (from ++ read) c.args.clock.now c.read_all.new.clock c.flat_gates.new.clock outputs behind
