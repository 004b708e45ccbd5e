use Rattle.std.proofs.Common.{◌+◌, ◌*◌, length, arith}
use Rattle.fixpoint.proofs.Common.{IsWide, loops_by, AddsWithin, adds_more, adds_refused, adds_swept, values_under, IsWorking, HasLargeCover, effort}
use Rattle.fixpoint.proofs.KeptLemmas.{RootsStay-chain, adds_lacking}
use Rattle.fixpoint.proofs.KeepingLemmas.{solution-is, solved-start}
use Rattle.fixpoint.proofs.solving.solve_looped.Goals as goal
use Rattle.fixpoint.proofs.solving.solve_looped.Goals.{After-solve_blocks}

pub solve_blocks-requires : goal.solve_blocks-requires
solve_blocks-requires c =
    let p = c.in_ok-progress.progress in
    grind (arith, solved-start c.args.looped.now c.args.d.now c.args.given.items p.wires.before.items p.wires.rails.items p.places.items c.requires)

-- what the blocks add, by the given rails as they were handed in
block-adds : (c : After-solve_blocks) → AddsWithin c.solve_blocks.result c.args.d.now c.solve_blocks.new.d (HasLargeCover c.args.looped.now.net)
    (IsWide c.args.d.now.vars (IsWorking c.args.looped.now.net (loops_by c.args.looped.now.blocks c.args.looped.now.cut) (values_under c.args.d.now c.args.given.items))) (10 * (length c.args.looped.now.net.gates + 2) * effort c.args.looped.now.net)
block-adds c = adds_more (omega arith) (rw c.deref-2.ensures.value at c.solve_blocks.ensures.adds)

pub returns-in_err-loops-clause-adds : goal.returns-in_err-loops-clause-adds
returns-in_err-loops-clause-adds c = adds_refused c.in_err-loops.was c.from_residual-in_err-loops.ensures.1 (block-adds ((goal.at.returns-in_err-loops-clause-adds c).After-solve_blocks))

pub returns-in_err-hand_out-clause-adds : goal.returns-in_err-hand_out-clause-adds
returns-in_err-hand_out-clause-adds c = adds_lacking c.from_residual-in_err-hand_out.ensures.1 c.hand_out.ensures.fewer (block-adds ((goal.at.returns-in_err-hand_out-clause-adds c).After-solve_blocks))

pub returns-clause-adds : goal.returns-clause-adds
returns-clause-adds c = adds_swept c.hand_out.ensures.fewer (block-adds ((goal.at.returns-clause-adds c).After-solve_blocks))

pub returns-clause-solution : goal.returns-clause-solution
returns-clause-solution c =
    solution-is c.args.looped.now c.net.ensures.looped c.solve_blocks.ensures.roots c.hand_out.ensures.roots c.args.given.items c.requires c.solve_blocks.new.progress.places.items
    (rw c.deref-2.ensures.value at c.in_ok-loops.ensures.solved.kept)
    c.in_ok-loops.loops.items c.in_ok-hand_out.field-0 c.in_ok-loops.ensures.loops
    (rw c.deref-2.ensures.value at c.in_ok-loops.ensures.steps)
    c.in_ok-hand_out.ensures.rails c.in_ok-hand_out.ensures.loops

pub returns-in_err-hand_out-clause-roots : goal.returns-in_err-hand_out-clause-roots
returns-in_err-hand_out-clause-roots c = RootsStay-chain c.solve_blocks.ensures.roots c.hand_out.ensures.roots

pub returns-clause-roots : goal.returns-clause-roots
returns-clause-roots c = RootsStay-chain c.solve_blocks.ensures.roots c.hand_out.ensures.roots
