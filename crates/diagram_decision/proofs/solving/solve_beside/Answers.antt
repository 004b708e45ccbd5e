use Rattle.std.proofs.Common.{◌∙◌, ◌+◌, ◌*◌, ℕ, List, IsSome, length, map, refl, sym, ap, subst, arith}
use Rattle.diagram_decision.proofs.Common.{AddsWithin, adds_moved, adds_refused, IsWide, values_of, loops_by, rails_under, Vectors, IsSolution, IsWorking, HasLargeCover, effort}
use Rattle.bdd_store.proofs.GrowthLemmas.{adds_answered}
use Rattle.loops.specs.Sweeps.{first_gate}
use Rattle.fixpoint.specs.declared.kept.KeptRails.{KeptRails}
use Rattle.fixpoint.proofs.KeptLemmas.{adds_lacking}
use Rattle.diagram_decision.proofs.SolvingLemmas.{given-kept, values-before, adds_before, root-function}
use Rattle.diagram_decision.proofs.solving.solve_beside.Goals as goal
use Rattle.diagram_decision.proofs.solving.solve_beside.Goals.{After-solve}

pub solve-requires-clause-given : goal.solve-requires-clause-given
solve-requires-clause-given c =
    let kept = c.in_ok-rails.ensures in
    given-kept kept.gains c.args.given.now c.in_ok-rails.field-0.rails.items kept.rails c.net-net.result.now (c.requires.width ∙ ap first_gate (sym c.net-net.ensures.net)) c.requires.rails kept.keys

-- what the solution adds, by the rails as they were given
solution-adds : (c : After-solve) → AddsWithin c.solve.result c.args.d.now c.solve.new.d (HasLargeCover c.args.looped.now.net) (IsWide c.args.d.now.vars (IsWorking c.args.looped.now.net (loops_by c.args.looped.now.blocks c.args.looped.now.cut) (values_of c.args.d.now c.args.given.now)))
    (10 * (length c.args.looped.now.net.gates + 2) * effort c.args.looped.now.net)
solution-adds c =
    let kept = c.in_ok-rails.ensures in
    let adds = rw (c.net-net.ensures.net, c.blocks-blocks.ensures.blocks, c.cut-cut.ensures.cut) at c.solve.ensures.adds in
    adds_before kept.gains
    (adds_moved (λ w wide.
    subst (λ (v : Vectors). IsWide c.keep_roots.new.d.vars (IsWorking c.args.looped.now.net (loops_by c.args.looped.now.blocks c.args.looped.now.cut) v) w) (sym (values-before kept.gains c.args.given.now c.in_ok-rails.field-0.rails.items kept.rails))
    (subst (λ (n : ℕ). IsWide n (IsWorking c.args.looped.now.net (loops_by c.args.looped.now.blocks c.args.looped.now.cut) (values_of c.args.d.now c.args.given.now)) w) (sym kept.gains.vars) wide)) adds)

pub returns-in_err-solved-clause-adds : goal.returns-in_err-solved-clause-adds
returns-in_err-solved-clause-adds c = adds_refused c.in_err-solved.was c.from_residual-in_err-solved.ensures.1 (solution-adds ((goal.at.returns-in_err-solved-clause-adds c).After-solve))

pub returns-in_err-rails-2-clause-adds : goal.returns-in_err-rails-2-clause-adds
returns-in_err-rails-2-clause-adds c = adds_lacking c.from_residual-in_err-rails-2.ensures.1 (omega arith) (solution-adds ((goal.at.returns-in_err-rails-2-clause-adds c).After-solve))

pub returns-clause-adds : goal.returns-clause-adds
returns-clause-adds c = adds_answered (solution-adds ((goal.at.returns-clause-adds c).After-solve))

pub root-requires : goal.root-requires
root-requires c =
    let still = c.in_ok-solved.ensures.roots.each c.in_ok-rails.field-0.set.key c.args.set c.in_ok-rails.ensures.set in
    subst IsSome (sym still.root) refl

pub returns-clause-fixpoint : goal.returns-clause-fixpoint
returns-clause-fixpoint c =
    let kept = c.in_ok-rails.ensures in
    let found = c.in_ok-solved.ensures in
    let solution = rw (c.net-net.ensures.net, c.blocks-blocks.ensures.blocks, c.cut-cut.ensures.cut) at found.solution in
    record {
      solution = subst (λ (v : Vectors). IsSolution c.args.looped.now.net c.args.looped.now.blocks c.args.looped.now.cut c.solve.new.d v c.in_ok-solved.solved) (values-before kept.gains c.args.given.now c.in_ok-rails.field-0.rails.items kept.rails) solution;
      rails_are = c.of.ensures ∙ c.in_ok-rails-2.ensures ∙ ap (λ (xs : List KeptRails). map (rails_under c.solve.new.d) xs) c.items.ensures;
      node = c.root.ensures.node;
      function = root-function kept.gains found.roots c.in_ok-rails.field-0.set.key c.args.set c.root.result kept.set c.root.ensures.root;
    }
