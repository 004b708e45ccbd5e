use Rattle.std.proofs.Common.{length, map, arith, ap}
use Rattle.std.proofs.lemmas.List.{length-append, length-map}
use Rattle.std.proofs.lemmas.Result.{err_from_is_err_and}
use Rattle.netlist.specs.Netlists.{driven_names}
use Rattle.netlist.specs.Naming.{AddsAll, StopsAt}
use Rattle.netlist.proofs.Repeats.{AddsAll-append, StopsAt-earlier, StopsAt-later, map-itself}
use Rattle.netlist.proofs.names.add_signals.Goals as goal

pub add_names-requires-3 : goal.add_names-requires-3
add_names-requires-3 c =
    let inputs : AddsAll c.args.names.now.keys (map (λ name. name) c.items.result.now) c.add_names.new.names.keys = c.in_ok-add_names.ensures.added in
    let first = simp (length-append, length-map, c.items.ensures) at (ap length inputs.last) in
    let second = simp (length-append, length-map, c.items-2.ensures) at (ap length c.in_ok-add_names-2.ensures.added.last) in
    omega (arith, ap length c.items-3.ensures)

pub returns-in_err-add_names-clause-fault : goal.returns-in_err-add_names-clause-fault
returns-in_err-add_names-clause-fault c =
    let stop : StopsAt c.args.names.now.keys (map (λ name. name) c.items.result.now) c.in_err-add_names.field-0.0 = c.in_err-add_names.ensures.fault in
    let p = err_from_is_err_and c.from_residual.result c.from_residual.ensures.1 in
    rw (p.1, p.2)
    (StopsAt-earlier c.args.names.now.keys c.args.parts.now.inputs (driven_names c.args.parts.now) _ (rw (map-itself c.items.result.now, c.items.ensures) at stop))

pub returns-in_err-add_names-2-clause-fault : goal.returns-in_err-add_names-2-clause-fault
returns-in_err-add_names-2-clause-fault c =
    let parts = c.args.parts.now in
    let inputs : AddsAll c.args.names.now.keys (map (λ name. name) c.items.result.now) c.add_names.new.names.keys = c.in_ok-add_names.ensures.added in
    let p = err_from_is_err_and c.from_residual-in_err-add_names-2.result c.from_residual-in_err-add_names-2.ensures.1 in
    rw (p.1, p.2)
    (StopsAt-later c.args.names.now.keys parts.inputs c.add_names.new.names.keys (driven_names parts) _
    (rw (map-itself c.items.result.now, c.items.ensures) at inputs)
    (StopsAt-earlier c.add_names.new.names.keys (map (λ latch. latch.name) parts.latches) (map (λ gate. gate.name) parts.gates) _
    (rw c.items-2.ensures at c.in_err-add_names-2.ensures.fault)))

pub returns-in_err-add_names-3-clause-fault : goal.returns-in_err-add_names-3-clause-fault
returns-in_err-add_names-3-clause-fault c =
    let parts = c.args.parts.now in
    let inputs : AddsAll c.args.names.now.keys (map (λ name. name) c.items.result.now) c.add_names.new.names.keys = c.in_ok-add_names.ensures.added in
    let p = err_from_is_err_and c.from_residual-in_err-add_names-3.result c.from_residual-in_err-add_names-3.ensures.1 in
    rw (p.1, p.2)
    (StopsAt-later c.args.names.now.keys parts.inputs c.add_names.new.names.keys (driven_names parts) _
    (rw (map-itself c.items.result.now, c.items.ensures) at inputs)
    (StopsAt-later c.add_names.new.names.keys (map (λ latch. latch.name) parts.latches) c.add_names-2.new.names.keys (map (λ gate. gate.name) parts.gates) _
    (rw c.items-2.ensures at c.in_ok-add_names-2.ensures.added)
    (rw c.items-3.ensures at c.in_err-add_names-3.ensures.fault)))

pub returns-clause-added : goal.returns-clause-added
returns-clause-added c =
    let parts = c.args.parts.now in
    let inputs : AddsAll c.args.names.now.keys (map (λ name. name) c.items.result.now) c.add_names.new.names.keys = c.in_ok-add_names.ensures.added in
    AddsAll-append c.args.names.now.keys parts.inputs c.add_names.new.names.keys (driven_names parts) c.add_names-3.new.names.keys
    (rw (map-itself c.items.result.now, c.items.ensures) at inputs)
    (AddsAll-append c.add_names.new.names.keys (map (λ latch. latch.name) parts.latches) c.add_names-2.new.names.keys
    (map (λ gate. gate.name) parts.gates) c.add_names-3.new.names.keys
    (rw c.items-2.ensures at c.in_ok-add_names-2.ensures.added)
    (rw c.items-3.ensures at c.in_ok-add_names-3.ensures.added))
