use Rattle.std.proofs.Common.{◌≡◌, ◌∙◌, List, ap, arith, length-append}
use Rattle.loop_simulation.proofs.Common.{length-map, Trit, bit, bits, Parts, fix, fix_gates, LoopAt, loops_in}
use Rattle.loops.proofs.Sweeps.{length-fix}
use Rattle.loop_simulation.proofs.simulating.count_at.Goals as goal
use Rattle.loop_simulation.proofs.simulating.count_at.Goals.{After-deref}

-- what is outside of the loop is as in the fixpoint
outside_is : (c : After-deref) → c.deref.result.now ≡ fix c.args.block.now.net (bits c.args.vector.now)
outside_is c = c.deref.ensures.value ∙ c.in_ok-outside.ensures ∙ ap (λ (net : Parts). fix net (bits c.args.vector.now)) c.net.ensures.net

pub invariant_of-simulation : goal.invariant_of-simulation
invariant_of-simulation g =
    let c : After-deref = (goal.at.invariant_of-simulation g).After-deref in
    let l : LoopAt = c.args.block.now in
    let v : List Trit = bits c.args.vector.now in
    grind (arith, After-deref, outside_is c, length-append v (fix_gates l.net v), length-map c.args.vector.now bit, length-fix l.net (loops_in l) v)

pub returns : goal.returns
returns c = grind (arith, outside_is (goal.at.returns c).After-deref)
