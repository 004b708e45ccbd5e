use Rattle.std.proofs.lemmas.Result.{IfOk-weaker}
use Rattle.case_search.specs.Cases.{ForcesKnown}
use Rattle.case_search.proofs.ShownLemmas.{told-at}
use Rattle.case_search.proofs.cases_shown.is_shown.Goals as goal

pub returns-clause-apart : goal.returns-clause-apart
returns-clause-apart c =
    IfOk-weaker c.forces_known.result _ _ (λ shown told h. c.in_ok-is_apart_from_each.ensures.apart c.if-not-branch.false) c.forces_known.ensures.forces

pub returns-clause-forces : goal.returns-clause-forces
returns-clause-forces c =
    IfOk-weaker c.forces_known.result _ _ (λ shown told h.
    told-at c.args.questions.now c.is_apart_from_each.new.questions (λ net care. ForcesKnown net care c.args.case.now.cube.items c.args.case.now.known.items) c.is_apart_from_each.ensures.unchanged (told h))
    c.forces_known.ensures.forces
