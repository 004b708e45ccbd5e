use Rattle.std.proofs.Common.{◌∙◌, ◌++◌, ◌∷◌, [], ap}
use Rattle.std.proofs.lemmas.Result.{IfOk-weaker}
use Rattle.case_split.specs.declared.cases.ColumnValue.{ColumnValue}
use Rattle.case_search.proofs.ShownLemmas.{forced-value}
use Rattle.case_search.proofs.cases_shown.forces_value.Goals as goal

pub returns-clause-forces : goal.returns-clause-forces
returns-clause-forces c =
    IfOk-weaker c.is_ruled_out.result _ _ (λ out told h.
    forced-value c.args.questions.now c.args.cube.now c.deref.result.now c.args.value
    (c.deref.ensures.value ∙ c.in_ok-contrary.ensures ∙ ap (λ (e : ColumnValue). c.args.cube.now ++ e ∷ []) c.opposite.ensures) (told h))
    c.is_ruled_out.ensures.out
