use Rattle.std.proofs.Common.{◌≡◌, ◌+◌, ◌*◌, ◌++◌, length, get_or, subst, sym, arith}
use Rattle.fixpoint.proofs.Common.{All, option_to_list, AddsWithin, adds_more, adds_moved, adds_refused, adds_swept, IsWide, loops_by, values_under, RootsStay, AreKeptSteps, Looped, Vectors, IsWorking, HasLargeCover, below_cost}
use Rattle.bdd_store.proofs.GrowthLemmas.{adds_then, adds_answered}
use Rattle.fixpoint.specs.Sweeping.{IsKeptAt}
use Rattle.fixpoint.proofs.BlockLemmas.{HasLoopsBelow, loops-start, loops-end}
use Rattle.fixpoint.proofs.BoundLemmas.{wide-same, below-next, below-all}
use Rattle.fixpoint.proofs.KeptLemmas.{RootsStay-chain, values-stay, adds_lacking, nothing_added}
use Rattle.fixpoint.proofs.KeepingLemmas.{places-kept, solved-swept, steps-stay, found-loops, found-steps, found-stays}
use Rattle.fixpoint.proofs.solving.solve_blocks.Goals as goal
use Rattle.fixpoint.proofs.solving.solve_blocks.Goals.{After-solve_and_keep}

-- one block more
step : (c : After-solve_and_keep) → AddsWithin c.solve_and_keep.result c.args.d.now c.solve_and_keep.new.d (HasLargeCover c.args.looped.now.net) (IsWide c.args.d.now.vars (IsWorking c.args.looped.now.net (loops_by c.args.looped.now.blocks c.args.looped.now.cut) (values_under c.args.d.now c.args.given.now)))
    (2 * ((length c.args.looped.now.net.gates + 1) * below_cost c.args.looped.now.net c.args.looped.now.blocks (c.loop-place.place + 1)))
step c =
    let inv = c.loop-place.invariant in
    let keys = c.requires.solved.given_are.keys in
    adds_more (below-next c.args.looped.now.net c.args.looped.now.blocks c.loop-place.place)
    (adds_then inv.roots.limit inv.adds
    (adds_moved (λ w wide. wide-same c.args.looped.now.net (loops_by c.args.looped.now.blocks c.args.looped.now.cut) (values_under c.loop-place.d c.args.given.now) (values_under c.args.d.now c.args.given.now) c.args.d.now c.loop-place.d inv.roots.vars (values-stay inv.roots c.args.given.now keys) wide)
    c.solve_and_keep.ensures.adds))

pub loop-place-init : goal.loop-place-init
loop-place-init c =
    let read = c.in_ok-sweep_store.ensures in
    record {
      roots = c.sweep_store.ensures.roots;
      adds = adds_swept c.sweep_store.ensures.fewer nothing_added;
      solved = rw read.places (solved-swept c.args.looped.now c.sweep_store.ensures.roots c.args.given.now 0 c.args.progress.now.places.items c.requires.solved c.sweep_store.new.progress.wires.before.items c.sweep_store.new.progress.wires.rails.items read.before read.rails);
      loops = subst (HasLoopsBelow c.args.looped.now.blocks 0) (sym c.new-loops.ensures.items) (loops-start c.args.looped.now.blocks);
      steps = subst (All (AreKeptSteps c.args.looped.now.net c.args.looped.now.blocks c.args.looped.now.cut c.sweep_store.new.d (values_under c.sweep_store.new.d c.args.given.now))) (sym c.new-loops.ensures.items) (λ k none less. absurd (omega (arith, less)));
    }

pub sweep_if_due-requires-clause-places : goal.sweep_if_due-requires-clause-places
sweep_if_due-requires-clause-places c = places-kept c.in_ok-found.ensures.solved.kept

pub loop-place-preserved : goal.loop-place-preserved
loop-place-preserved c =
    let l : Looped = c.args.looped.now in
    let b = c.loop-place.place in
    let given = c.args.given.now in
    let inv = c.loop-place.invariant in
    let one : RootsStay c.loop-place.d c.solve_and_keep.new.d = c.solve_and_keep.ensures.roots in
    let two : RootsStay c.solve_and_keep.new.d c.sweep_if_due.new.d = c.sweep_if_due.ensures.roots in
    let done = c.in_ok-found.ensures.solved in
    let found : IsKeptAt l c.sweep_if_due.new.d (values_under c.sweep_if_due.new.d given) b c.in_ok-found.found =
    subst (λ (v : Vectors). IsKeptAt l c.sweep_if_due.new.d v b c.in_ok-found.found) (sym (values-stay two given done.given_are.keys))
    (found-stays l c.solve_and_keep.new.d c.sweep_if_due.new.d (values_under c.solve_and_keep.new.d given) b c.in_ok-found.found two c.in_ok-found.ensures.steps) in
    let whole : RootsStay c.loop-place.d c.sweep_if_due.new.d = RootsStay-chain one two in
    let items : c.add_loop.new.loops.items ≡ c.loop-place.loops.items ++ option_to_list c.in_ok-found.found = c.in_ok-add_loop.ensures in
    record {
      roots = RootsStay-chain inv.roots whole;
      adds = adds_swept c.sweep_if_due.ensures.fewer (step ((goal.at.loop-place-preserved c).After-solve_and_keep));
      solved = c.in_ok-sweep_if_due.ensures.solved l (b + 1) done;
      loops = subst (HasLoopsBelow l.blocks (b + 1)) (sym items) (found-loops l c.sweep_if_due.new.d (values_under c.sweep_if_due.new.d given) b c.loop-place.loops.items c.in_ok-found.found found inv.loops);
      steps = subst (All (AreKeptSteps l.net l.blocks l.cut c.sweep_if_due.new.d (values_under c.sweep_if_due.new.d given))) (sym items)
          (found-steps l c.sweep_if_due.new.d (values_under c.sweep_if_due.new.d given) b c.loop-place.loops.items c.in_ok-found.found found
          (λ k none less. subst (λ (v : Vectors). AreKeptSteps l.net l.blocks l.cut c.sweep_if_due.new.d v (get_or c.loop-place.loops.items k none)) (sym (values-stay whole given inv.solved.given_are.keys))
          (steps-stay whole (get_or c.loop-place.loops.items k none) (inv.steps k none less))));
    }

pub returns-in_err-found-clause-adds : goal.returns-in_err-found-clause-adds
returns-in_err-found-clause-adds c =
    adds_more (below-all c.args.looped.now.net c.args.looped.now.blocks (c.loop-place.place + 1)) (adds_refused c.in_err-found.was c.from_residual-in_err-found.ensures.1 (step ((goal.at.returns-in_err-found-clause-adds c).After-solve_and_keep)))

pub returns-in_err-sweep_if_due-clause-adds : goal.returns-in_err-sweep_if_due-clause-adds
returns-in_err-sweep_if_due-clause-adds c =
    adds_more (below-all c.args.looped.now.net c.args.looped.now.blocks (c.loop-place.place + 1)) (adds_lacking c.from_residual-in_err-sweep_if_due.ensures.1 c.sweep_if_due.ensures.fewer (step ((goal.at.returns-in_err-sweep_if_due-clause-adds c).After-solve_and_keep)))

pub returns-in_err-add_loop-clause-adds : goal.returns-in_err-add_loop-clause-adds
returns-in_err-add_loop-clause-adds c =
    adds_more (below-all c.args.looped.now.net c.args.looped.now.blocks (c.loop-place.place + 1)) (adds_lacking c.from_residual-in_err-add_loop.ensures.1 c.sweep_if_due.ensures.fewer (step ((goal.at.returns-in_err-add_loop-clause-adds c).After-solve_and_keep)))

pub returns-clause-adds : goal.returns-clause-adds
returns-clause-adds c = adds_more (below-all c.args.looped.now.net c.args.looped.now.blocks c.loop-place.place) (adds_answered c.loop-place.invariant.adds)

pub returns-clause-loops : goal.returns-clause-loops
returns-clause-loops c = grind (arith, loops-end c.args.looped.now.blocks c.loop-place.place c.loop-place.loops.items)

pub returns-in_err-found-clause-roots : goal.returns-in_err-found-clause-roots
returns-in_err-found-clause-roots c = RootsStay-chain c.loop-place.invariant.roots c.solve_and_keep.ensures.roots

pub returns-in_err-sweep_if_due-clause-roots : goal.returns-in_err-sweep_if_due-clause-roots
returns-in_err-sweep_if_due-clause-roots c = RootsStay-chain c.loop-place.invariant.roots (RootsStay-chain c.solve_and_keep.ensures.roots c.sweep_if_due.ensures.roots)

pub returns-in_err-add_loop-clause-roots : goal.returns-in_err-add_loop-clause-roots
returns-in_err-add_loop-clause-roots c = RootsStay-chain c.loop-place.invariant.roots (RootsStay-chain c.solve_and_keep.ensures.roots c.sweep_if_due.ensures.roots)
