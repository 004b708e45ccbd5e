use Rattle.std.proofs.Common.{List, ℕ, Contains, map, subst, sym, arith}
use Rattle.isolation.proofs.Common.{Parts, gate_sig, block_at}
use Rattle.isolation.specs.Building.{AreApart}
use Rattle.loops.proofs.OrderLemmas.{block_rises, gates_within}
use Rattle.isolation.proofs.BuildingLemmas.{outside_within, loop_is, found_then}
use Rattle.isolation.proofs.excerpt.loop_netlist.Goals as goal

pub excerpt-requires-clause-outside : goal.excerpt-requires-clause-outside
excerpt-requires-clause-outside c =
    let l = c.args.looped.now in
    grind (arith, outside_within l.net c.gates_at-gates.ensures.valid (block_at l.blocks c.args.place).gates, gates_within l.net l.blocks c.net.ensures.looped.blocks c.args.place c.requires (block_at l.blocks c.args.place).gates)

pub excerpt-requires-clause-apart : goal.excerpt-requires-clause-apart
excerpt-requires-clause-apart c =
    subst (λ (net : Parts). AreApart net c.gates_at-gates.result.now c.in_ok-outside.outside.keys) (sym c.net.ensures.net)
    (λ s outside gate. (c.in_ok-outside.ensures.wires.are s outside).apart (subst (λ (gs : List ℕ). Contains (map (gate_sig c.args.looped.now.net) gs) s) c.gates_at-gates.ensures.is gate))

pub returns-clause-small : goal.returns-clause-small
returns-clause-small c =
    let l = c.args.looped.now in
    found_then c.excerpt.result (λ small is. loop_is l.net (block_at l.blocks c.args.place).gates c.in_ok-outside.outside.keys small c.in_ok-outside.ensures.wires is)
    (rw (c.gates_at-gates.ensures.is, c.net.ensures.net) at c.excerpt.ensures.small)

pub returns-clause-filled : goal.returns-clause-filled
returns-clause-filled c =
    found_then c.excerpt.result (λ small is. omega (arith, is.size, c.net.ensures.looped.blocks.filled c.args.place c.requires))
    (rw c.gates_at-gates.ensures.is at c.excerpt.ensures.small)

pub returns-clause-some : goal.returns-clause-some
returns-clause-some c =
    let l = c.args.looped.now in
    let rise = block_rises l.net l.blocks c.net.ensures.looped.blocks c.args.place c.requires in
    c.excerpt.ensures.some (rw (c.net.ensures.net, c.gates_at-gates.ensures.is) (record { rise = rise; once = c.in_ok-outside.ensures.wires.once; read = c.in_ok-outside.ensures.all }))
