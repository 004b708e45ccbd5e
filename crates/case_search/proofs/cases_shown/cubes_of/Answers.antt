use Rattle.std.proofs.Common.{map, ap, ◌∙◌}
use Rattle.std.proofs.lemmas.List.{take_all}
use Rattle.case_search.specs.Cases.{cube_of}
use Rattle.case_search.proofs.ShownLemmas.{cubes-more}
use Rattle.case_search.proofs.cases_shown.cubes_of.Goals as goal

pub loop-case-preserved : goal.loop-case-preserved
loop-case-preserved c =
    c.in_ok-push.ensures.items
    ∙ cubes-more c.args.cases.now c.loop-case.case-index c.case-item.result c.loop-case.cubes.items c.in_ok-asked_cube.field-0 c.loop-case-test.true c.case-item.is c.loop-case.invariant c.in_ok-asked_cube.ensures

pub returns : goal.returns
returns c = c.loop-case.invariant ∙ ap (map cube_of) (take_all c.loop-case.case-index c.args.cases.now c.loop-case-test.false)
