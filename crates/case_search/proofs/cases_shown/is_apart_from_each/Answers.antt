use Rattle.std.proofs.Common.{List, subst, ◌∙◌}
use Rattle.std.proofs.lemmas.List.{take_all}
use Rattle.case_split.specs.declared.cases.Case.{Case}
use Rattle.case_search.specs.Cases.{IsApartFromEach, ToldBy}
use Rattle.case_search.proofs.ShownLemmas.{apart-more}
use Rattle.case_search.proofs.cases_shown.is_apart_from_each.Goals as goal

pub loop-other-preserved : goal.loop-other-preserved
loop-other-preserved c = record {
  unchanged = c.are_apart.ensures.unchanged ∙ c.loop-other.invariant.unchanged;
  told =
      apart-more c.args.questions.now c.loop-other.questions c.args.case.now c.args.others.now c.loop-other.other-index c.other-item.result c.deref.result.now c.deref-in-loop-other.result.now
      c.loop-other.invariant.unchanged c.loop-other-test.true c.other-item.is c.deref.ensures.value c.deref-in-loop-other.ensures.value c.loop-other.invariant.told (c.in_ok-are_apart.ensures.apart c.if-not-branch.false);
}

pub returns-clause-apart : goal.returns-clause-apart
returns-clause-apart c = λ h. subst (λ (others : List Case). ToldBy c.args.questions.now (IsApartFromEach c.args.case.now others)) (take_all c.loop-other.other-index c.args.others.now c.loop-other-test.false) c.loop-other.invariant.told
