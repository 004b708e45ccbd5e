use Rattle.std.proofs.Common.{◌∙◌, inl, sym, subst, arith}
use Rattle.diagram_decision.proofs.Common.{IfOk-weaker, adds_moved, values_of, IsWide, loops_by, HasLargeCover, IsLaid, AreColumnVectors, Tells, laid, is_care_vector}
use Rattle.bdd_store.proofs.GrowthLemmas.{adds_caused}
use Rattle.diagram_decision.specs.Solving.{IsFixpointOn}
use Rattle.diagram_decision.specs.Judgements.{IsSolvedWhole}
use Rattle.diagram_decision.specs.declared.solving.Fixpoint.{Fixpoint}
use Rattle.diagram_decision.proofs.CountLemmas.{column-vectors}
use Rattle.fixpoint.proofs.ToldLemmas.{loops-are}
use Rattle.diagram_decision.proofs.SolutionLemmas.{solving-wide}
use Rattle.diagram_decision.proofs.VerdictLemmas.{fixed-is}
use Rattle.diagram_decision.proofs.diagrams.solve_whole.Goals as goal
use Rattle.diagram_decision.proofs.diagrams.solve_whole.Goals.{After-solve_beside}

-- the vectors that the given rails stand for
points-are : (c : After-solve_beside) → AreColumnVectors c.args.question.now.net (values_of c.args.d.now c.args.rails.now)
points-are c = grind (arith, column-vectors c.args.question.now.net c.args.d.now c.args.rails.now)

solved-is : (c : After-solve_beside) (found : Fixpoint) → IsFixpointOn c.looped.result.now c.args.d.now c.solve_beside.new.d c.args.rails.now c.args.set found →
    AreColumnVectors c.args.question.now.net (values_of c.args.d.now c.args.rails.now) →
    IsSolvedWhole c.args.question.now.net c.args.question.now.blocks c.args.question.now.cut c.solve_beside.new.d found
solved-is c found is points_are =
    let q = c.args.question.now in
    let points = values_of c.args.d.now c.args.rails.now in
    grind (arith, fixed-is q.net q.blocks q.cut c.solve_beside.new.d points found.solved points_are)

set-is : (c : After-solve_beside) (found : Fixpoint) → IsFixpointOn c.looped.result.now c.args.d.now c.solve_beside.new.d c.args.rails.now c.args.set found →
    Tells c.args.question.now.net c.solve_beside.new.d found.set (is_care_vector c.args.question.now.net c.args.question.now.care)
set-is c found is = record {
  node = is.node;
  value = λ v long. is.function (laid c.args.question.now.net v) ∙ c.requires.set.value v (long ∙ c.solve_beside.ensures.vars);
}

pub returns-clause-solved : goal.returns-clause-solved
returns-clause-solved g =
    let c = (goal.at.returns-clause-solved g).After-solve_beside in
    IfOk-weaker g.solve_beside.result _ _ (λ found is. solved-is c found is (points-are c)) g.solve_beside.ensures.fixpoint

pub returns-clause-set : goal.returns-clause-set
returns-clause-set g =
    let c = (goal.at.returns-clause-set g).After-solve_beside in
    IfOk-weaker g.solve_beside.result _ _ (set-is c) g.solve_beside.ensures.fixpoint

-- ---- what it does to the diagrams: the working list of the fixpoint

pub returns-clause-adds : goal.returns-clause-adds
returns-clause-adds g =
    let c = (goal.at.returns-clause-adds g).After-solve_beside in
    let net = c.args.question.now.net in
    let care = c.args.question.now.care in
    let is = c.looped.ensures.is in
    let adds = rw c.looped.ensures.looped at c.solve_beside.ensures.adds in
    adds_caused {cause = HasLargeCover net} (λ over. inl over)
    (adds_moved (λ w wide.
    solving-wide net care c.args.d.now c.requires.vars (values_of c.args.d.now c.args.rails.now) (points-are c) (loops_by c.args.question.now.blocks c.args.question.now.cut)
    (loops-are net c.args.question.now.blocks c.args.question.now.cut is.blocks is.cut) (subst (λ n. IsWide n (IsLaid net care) w) (sym c.requires.vars) wide)) adds)
