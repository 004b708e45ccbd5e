-- No gate waits any longer, so the loop is settled.
use Rattle.std.proofs.Common.{◌≡◌, [], arith}
use Rattle.cyc_base.proofs.ListLemmas.{empty_list}
use Rattle.simulation.proofs.GateLemmas.{cleared}
use Rattle.simulation.proofs.LoopLemmas.{risen}
use Rattle.simulation.proofs.wires.Wires.settle_loop.Goals as goal

pub returns-clause-settled : goal.returns-clause-settled
returns-clause-settled c = grind (arith, empty_list c.loop-gate.worklist.gates.items, risen c.args.net.now c.args.plan.now c.args.place c.loop-gate.self.values.items c.loop-gate.self.due.items c.requires.plan)

pub returns-clause-kept : goal.returns-clause-kept
returns-clause-kept c =
    let empty : c.loop-gate.worklist.gates.items ≡ [] = empty_list c.loop-gate.worklist.gates.items (omega (arith, c.in_default.ensures.cases)) in
    cleared c.args.net.now c.requires.plan.netlist c.args.plan.now.blocks c.requires.plan.blocks c.loop-gate.self.values.items c.loop-gate.self.due.items c.args.place
    c.loop-gate.invariant.rising.kept
    (risen c.args.net.now c.args.plan.now c.args.place c.loop-gate.self.values.items c.loop-gate.self.due.items c.requires.plan
    (rw empty at c.loop-gate.invariant.rising))

pub loop-gate-preserved : goal.loop-gate-preserved
loop-gate-preserved c = grind arith

pub rise-requires-clause-rising : goal.rise-requires-clause-rising
rise-requires-clause-rising c = grind arith

pub loop-gate-smaller : goal.loop-gate-smaller
loop-gate-smaller c = grind arith
