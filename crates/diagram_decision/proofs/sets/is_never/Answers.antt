use Rattle.std.proofs.Common.{◌≡◌, ◌∙◌, List, ℕ, refl, ap}
use Rattle.diagram_decision.proofs.Common.{find, is_none, den, by_variable, vectors, IsLayout, order}
use Rattle.diagram_decision.proofs.PartLemmas.{least-told, order-layout}
use Rattle.diagram_decision.proofs.SetLemmas.{never_is}
use Rattle.diagram_decision.proofs.sets.is_never.Goals as goal
use Rattle.diagram_decision.proofs.sets.is_never.Goals.{After-eq}

laid : (c : After-eq) (columns : List ℕ) → IsLayout c.args.d.now.vars columns → c.eq.result ≡ is_none (find (λ v. den c.args.d.now c.args.set (by_variable columns v)) (vectors c.args.d.now.vars))
laid c = never_is c.args.d.now (rw c.store.ensures at c.laws.ensures) c.args.set c.of.result c.requires c.of.ensures.constant c.eq.result c.eq.ensures

pub returns-clause-laid : goal.returns-clause-laid
returns-clause-laid c = laid (goal.at.returns-clause-laid c).After-eq

pub returns-clause-told : goal.returns-clause-told
returns-clause-told c net test vars told =
    laid (goal.at.returns-clause-told c).After-eq (order net) (order-layout net c.args.d.now.vars (order net) vars refl) ∙ ap is_none (least-told vars refl told)
