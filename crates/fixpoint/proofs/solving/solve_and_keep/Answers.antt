use Rattle.std.proofs.Common.{◌≡◌, ◌+◌, ◌*◌, length, subst, ap, arith}
use Rattle.fixpoint.proofs.Common.{IsLawful, AddsWithin, adds_moved, adds_refused, adds_swept, IsWide, block_at, loops_by, first_gate, values_under, RootsStay, vectors, IsWorking, HasLargeCover, block_cost}
use Rattle.fixpoint.proofs.BoundLemmas.{wide-same}
use Rattle.fixpoint.proofs.KeptLemmas.{RootsStay-kept, RootsStay-gained, adds_lacking}
use Rattle.fixpoint.proofs.KeepingLemmas.{vectors-are, solved-next, found-next}
use Rattle.fixpoint.proofs.solving.solve_and_keep.Goals as goal
use Rattle.fixpoint.proofs.solving.solve_and_keep.Goals.{After-solve_block}

pub solve_block-requires-clause-solved : goal.solve_block-requires-clause-solved
solve_block-requires-clause-solved c =
    let is = c.requires.solved.solved in
    grind (arith, vectors-are is)

-- what the block adds
block-adds : (c : After-solve_block) → AddsWithin c.solve_block.result c.args.d.now c.solve_block.new.d (HasLargeCover c.args.looped.now.net) (IsWide c.args.d.now.vars (IsWorking c.args.looped.now.net (loops_by c.args.looped.now.blocks c.args.looped.now.cut) (values_under c.args.d.now c.args.given.now)))
    (2 * ((length c.args.looped.now.net.gates + 1) * block_cost c.args.looped.now.net c.args.looped.now.blocks c.args.place))
block-adds c =
    grind (arith, adds_moved, wide-same c.args.looped.now.net (loops_by c.args.looped.now.blocks c.args.looped.now.cut) (vectors c.args.looped.now.net c.args.d.now c.args.progress.now.wires.rails.items) (values_under c.args.d.now c.args.given.now) c.args.d.now c.args.d.now, vectors-are c.requires.solved.solved)

pub returns-in_err-found-clause-roots : goal.returns-in_err-found-clause-roots
returns-in_err-found-clause-roots c = RootsStay-kept (subst IsLawful c.store.ensures c.laws.ensures) c.solve_block.ensures.grows.keeps

pub returns-in_err-found-clause-adds : goal.returns-in_err-found-clause-adds
returns-in_err-found-clause-adds c = adds_refused c.in_err-found.was c.from_residual.ensures.1 (block-adds ((goal.at.returns-in_err-found-clause-adds c).After-solve_block))

pub keep_block-requires-clause-steps : goal.keep_block-requires-clause-steps
keep_block-requires-clause-steps c = grind arith

pub returns-in_err-keep_block-clause-roots : goal.returns-in_err-keep_block-clause-roots
returns-in_err-keep_block-clause-roots c = RootsStay-gained (subst IsLawful c.store.ensures c.laws.ensures) c.solve_block.ensures.grows.keeps c.keep_block.ensures.gains

pub returns-in_err-keep_block-clause-adds : goal.returns-in_err-keep_block-clause-adds
returns-in_err-keep_block-clause-adds c =
    adds_lacking c.from_residual-in_err-keep_block.ensures.1 (omega (arith, ap length c.keep_block.ensures.gains.entries)) (block-adds ((goal.at.returns-in_err-keep_block-clause-adds c).After-solve_block))

pub returns-clause-roots : goal.returns-clause-roots
returns-clause-roots c = RootsStay-gained (subst IsLawful c.store.ensures c.laws.ensures) c.solve_block.ensures.grows.keeps c.keep_block.ensures.gains

pub returns-clause-adds : goal.returns-clause-adds
returns-clause-adds c = adds_swept (omega (arith, ap length c.keep_block.ensures.gains.entries)) (block-adds ((goal.at.returns-clause-adds c).After-solve_block))

pub returns-clause-solved : goal.returns-clause-solved
returns-clause-solved c =
    let stay : RootsStay c.args.d.now c.keep_block.new.d = RootsStay-gained (subst IsLawful c.store.ensures c.laws.ensures) c.solve_block.ensures.grows.keeps c.keep_block.ensures.gains in
    let first_is : c.columns-first.result ≡ first_gate c.args.looped.now.net = omega (arith, c.columns-first.ensures.columns, ap first_gate c.net.ensures.net) in
    let gates_are : c.gates_of-gates.result.now ≡ (block_at c.args.looped.now.blocks c.args.place).gates = c.gates_of-gates.ensures.gates in
    let home = (c.gates_of-gates.ensures.home 0 0 c.gates_of-gates.ensures.some).1 in
    rw c.keep_block.ensures.wires
    (solved-next c.args.looped.now c.net.ensures.looped stay c.keep_block.ensures.gains c.args.given.now c.args.place c.requires.place c.args.progress.now.wires.before.items c.args.progress.now.wires.rails.items c.args.progress.now.places.items c.requires.solved
    c.solve_block.new.wires.before.items c.solve_block.new.wires.rails.items c.keep_block.new.progress.places.items
    c.gates_of-gates.result.now gates_are
    (rw home at c.in_ok-found.ensures.solved) (rw home at c.in_ok-found.ensures.fresh) c.keep_block.ensures.width
    (λ n has. rw first_is at (c.in_ok-keep_block.ensures.kept n has)) c.in_ok-keep_block.ensures.others)

pub returns-clause-steps : goal.returns-clause-steps
returns-clause-steps c =
    let stay : RootsStay c.args.d.now c.keep_block.new.d = RootsStay-gained (subst IsLawful c.store.ensures c.laws.ensures) c.solve_block.ensures.grows.keeps c.keep_block.ensures.gains in
    let home = (c.gates_of-gates.ensures.home 0 0 c.gates_of-gates.ensures.some).1 in
    found-next c.args.looped.now c.net.ensures.looped stay c.keep_block.ensures.gains c.args.given.now c.args.place c.requires.place c.args.progress.now.wires.before.items c.args.progress.now.wires.rails.items c.args.progress.now.places.items c.requires.solved c.solve_block.new.wires.before.items c.solve_block.new.wires.rails.items c.keep_block.new.progress.places.items
    c.in_ok-found.found c.in_ok-keep_block.field-0
    (rw home at c.in_ok-found.ensures.steps)
    c.in_ok-keep_block.ensures.keys c.in_ok-keep_block.ensures.steps
