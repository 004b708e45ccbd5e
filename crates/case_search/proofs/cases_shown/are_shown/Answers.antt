use Rattle.std.proofs.Common.{◌∙◌, sym, refl, subst, arith, ℕ, length, ◌≡◌}
use Rattle.std.proofs.lemmas.List.{get_or_default}
use Rattle.case_search.specs.Cases.{AreShown, ToldBy}
use Rattle.case_search.proofs.ShownLemmas.{shown-more, shown-none}
use Rattle.case_search.proofs.cases_shown.are_shown.Goals as goal

pub loop-place-init : goal.loop-place-init
loop-place-init c = record { unchanged = refl; told = shown-none c.args.questions.now c.args.cases.now }

pub loop-place-preserved : goal.loop-place-preserved
loop-place-preserved c =
    let cases = c.args.cases.now in
    let place = c.loop-place.place in
    let case = c.index-cases-place.result in
    record {
      unchanged = c.is_shown.ensures.unchanged ∙ c.loop-place.invariant.unchanged;
      told =
          shown-more c.args.questions.now c.loop-place.questions cases _ place case c.loop-place.invariant.unchanged c.loop-place-test.true refl
          (λ d. get_or_default cases place d case c.loop-place-test.true ∙ sym c.index-cases-place.is) c.loop-place.invariant.told
          (c.in_ok-is_shown.ensures.apart c.if-not-branch.false) (c.in_ok-is_shown.ensures.forces c.if-not-branch.false);
    }

pub returns-clause-shown : goal.returns-clause-shown
returns-clause-shown c = λ h.
    let last : c.loop-place.place ≡ length c.args.cases.now = omega (arith, c.loop-place-test.false, c.loop-place.auto.place-end) in
    subst (λ (k : ℕ). ToldBy c.args.questions.now (AreShown c.args.cases.now k)) last c.loop-place.invariant.told
