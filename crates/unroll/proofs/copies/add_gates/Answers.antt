use Rattle.std.proofs.Common.{◌∷◌, [], get_or, map, take, arith}
use Rattle.unroll.proofs.Common.{append_assoc, loops_in, net_of, copy_gate_by}
use Rattle.std.proofs.lemmas.List.{map_more}
use Rattle.unroll.proofs.copies.add_gates.Goals as goal

pub loop-gate-preserved : goal.loop-gate-preserved
loop-gate-preserved c =
    let active = c.args.active.now in
    let plan = c.args.plan.now in
    let tables = c.args.tables.now in
    let copy = copy_gate_by (net_of plan) (loops_in plan) plan.mark plan.by tables.earlier.items tables.current.items c.args.number in
    let old = c.args.gates.now.items in
    let i = c.loop-gate.gate-index in
    grind (arith, append_assoc old (map copy (take i active)) (copy (get_or active i 0) ∷ []), map_more copy active i 0)
