use Rattle.rewriting.specs.Rewriting.{IsLoopFreeForm}
use Rattle.case_search.proofs.KeptLemmas.{care_kept}
use Rattle.case_search.proofs.SplitLemmas.{small_weaker}
use Rattle.rewriting.proofs.CaseLemmas.{form_through}
use Rattle.rewriting.proofs.by_cases.rewrite_in_cases.Goals as goal

pub rewrite_split-requires-clause-care : goal.rewrite_split-requires-clause-care
rewrite_split-requires-clause-care c =
    let is = rw c.in-Some.is at c.in_ok-split.ensures in
    care_kept c.args.looped.now.net c.in-Some.split is.interface c.args.care.now c.requires.care

pub returns-in-Some-clause-form : goal.returns-in-Some-clause-form
returns-in-Some-clause-form c =
    let is = rw c.in-Some.is at c.in_ok-split.ensures in
    let care = c.args.care.now in
    small_weaker (IsLoopFreeForm c.in-Some.split care) _
    (λ other form what accepts. form_through c.args.looped.now.net c.in-Some.split is.interface care is.tells other form what c.requires.valid accepts)
    c.rewrite_split.result c.rewrite_split.ensures.form
