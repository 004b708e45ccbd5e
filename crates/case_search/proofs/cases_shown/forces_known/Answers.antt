use Rattle.std.proofs.Common.{List, subst, ◌∙◌}
use Rattle.std.proofs.lemmas.List.{get_or_default, take_all}
use Rattle.case_split.specs.declared.cases.ColumnValue.{ColumnValue}
use Rattle.case_search.specs.Cases.{ForcesKnown, ToldBy}
use Rattle.case_search.proofs.ShownLemmas.{forced-more}
use Rattle.case_search.proofs.cases_shown.forces_known.Goals as goal

pub loop-value-preserved : goal.loop-value-preserved
loop-value-preserved c =
    let values = c.deref-value-items.result.now in
    let place = c.loop-value.value-index in
    record {
      unchanged = c.forces_value.ensures.unchanged ∙ c.loop-value.invariant.unchanged;
      told =
          forced-more c.args.questions.now c.loop-value.questions c.args.case.now.cube.items c.deref.result.now values place _
          c.loop-value.invariant.unchanged c.loop-value-test.true (get_or_default values place _ _ c.loop-value-test.true) c.deref.ensures.value c.loop-value.invariant.told (c.in_ok-forces_value.ensures.forces c.if-not-branch.false);
    }

pub returns-clause-forces : goal.returns-clause-forces
returns-clause-forces c = λ h.
    subst (λ (values : List ColumnValue). ToldBy c.args.questions.now (λ net care. ForcesKnown net care c.args.case.now.cube.items values))
    (take_all c.loop-value.value-index c.deref-value-items.result.now c.loop-value-test.false ∙ c.deref-value-items.ensures.value) c.loop-value.invariant.told
