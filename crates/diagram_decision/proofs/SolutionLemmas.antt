-- The functions that the fixpoint and the comparison of its sweeps work with are made of those of the decision.
use Rattle.std.proofs.Common.{◌≡◌, inl, inr, ℕ, Bool, List, refl, ap, ◌∙◌}
use Rattle.diagram_decision.proofs.Common.{Node, Arena, den, IsWide, Parts, Blocks, Cut, AreBlocksOf, IsCutOf, Loops, Vectors, IsWorking, CareSet, columns, is_care_vector, IsLaid, SaysCare, Tells, laid, order, AreColumnVectors, All}
use Rattle.std.proofs.lemmas.List.Elements.{All-contains}
use Rattle.dual_rail.proofs.WidthLemmas.{IsWide-fewer}
use Rattle.loops.specs.Found.{loops_of}
use Rattle.fixpoint.specs.declared.solved.SweptLoop.{SweptLoop}
use Rattle.fixpoint.specs.declared.solved.Solved.{Solved}
use Rattle.fixpoint.specs.Solved.{AreStepsOf, AreKeptSteps, loop_under}
use Rattle.fixpoint.specs.Counts.{IsStepNode, IsComparedIn}
use Rattle.fixpoint.proofs.WorkingLemmas.{step-is_working}
use Rattle.diagram_decision.proofs.DecisionLemmas.{IsMade, decision_list, decision-wide, made-constant, made-told}
use Rattle.diagram_decision.proofs.MadeLemmas.{made-same, working-made, working-wide}

-- ---- the working list on columns

module _ (net : Parts) (care : CareSet) (a : Arena) (vars : a.vars ≡ columns net) (points : Vectors) (points_are : AreColumnVectors net points) where
  pub solving-wide : (loops : Loops) {w : ℕ} → loops ≡ loops_of net → IsWide a.vars (IsLaid net care) w → IsWide a.vars (IsWorking net loops points) w
  solving-wide loops is wide = working-wide (decision_list net care) (order net) points points_are.laid_are loops is (decision-wide vars wide)

  -- ---- the steps of loops

  module _ (blocks : Blocks) (cut : Cut) (are : AreBlocksOf net blocks) (cut_is : IsCutOf net cut) where
    -- a rail of a step
    step-made : (loop : SweptLoop) → AreStepsOf net blocks cut a points loop → (node : Node) → IsStepNode loop.steps node → IsMade net care (den a node)
    step-made loop steps node is = elim (step-is_working net points a blocks cut are cut_is loop steps node is) [
      | inl c ↦ made-constant c.value (λ v. c.same (laid net v))
      | inr w ↦ made-same (λ v long. w.same (laid net v)) (working-made (decision_list net care) (order net) points points_are.laid_are w.of w.is)
    ]

    compared-made : (set : Node) (solved : Solved) → Tells net a set (is_care_vector net care) → All (AreKeptSteps net blocks cut a points) solved.loops → (g : List Bool → Bool) → IsComparedIn a set solved.loops g → IsMade net care g
    compared-made set solved told all g is = elim is.of [
      | inl e ↦ made-same (λ v long. is.same (laid net v) ∙ ap (λ (n : Node). den a n (laid net v)) e) (made-told vars (SaysCare (λ v. refl)) told)
      | inr at ↦
          let loop = All-contains (AreKeptSteps net blocks cut a points) solved.loops at.loop all at.among in
          made-same (λ v long. is.same (laid net v)) (step-made (loop_under a at.loop) loop.steps is.node at.node)
    ]

    pub compared-wide : (set : Node) (solved : Solved) {w : ℕ} → Tells net a set (is_care_vector net care) → All (AreKeptSteps net blocks cut a points) solved.loops → IsWide a.vars (IsLaid net care) w →
        IsWide a.vars (IsComparedIn a set solved.loops) w
    compared-wide set solved {w} told all wide = IsWide-fewer (IsMade net care) (IsComparedIn a set solved.loops) w (compared-made set solved told all) (decision-wide vars wide)
