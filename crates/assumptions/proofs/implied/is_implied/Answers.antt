use Rattle.std.proofs.Common.{List, sym, ◌∙◌, subst}
use Rattle.std.proofs.lemmas.Result.{IfOk-weaker}
use Rattle.care_rows.specs.Rows.{AreSteadyRows}
use Rattle.care_rows.specs.declared.rows.Row.{Row}
use Rattle.assumptions.proofs.ImpliedLemmas.{refuted_steady, found_implied}
use Rattle.assumptions.proofs.implied.is_implied.Goals as goal

pub stronger_care-requires-clause-steady : goal.stronger_care-requires-clause-steady
stronger_care-requires-clause-steady c =
    subst (λ (rows : List Row). AreSteadyRows c.args.looped.now.net rows) (sym (c.deref.ensures.value ∙ c.in_ok-rows.ensures))
    (refuted_steady c.args.looped.now.net c.args.others.now c.args.value c.requires.others c.requires.value)

pub returns-in-Ok : goal.returns-in-Ok
returns-in-Ok c =
    IfOk-weaker c.is_surely_empty.result _ _
    (λ empty told is.
    found_implied c.args.looped.now.net c.net.result.now c.none.result c.in-Ok.care c.deref.result.now c.args.others.now c.args.value c.none.ensures.assume c.none.ensures.invariant
    (c.deref.ensures.value ∙ c.in_ok-rows.ensures) c.net.ensures.net c.in-Ok.ensures.excludes (told is))
    c.is_surely_empty.ensures
