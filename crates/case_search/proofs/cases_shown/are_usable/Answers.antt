use Rattle.std.proofs.Common.{subst}
use Rattle.std.specs.List.{All}
use Rattle.std.proofs.lemmas.List.{take_all}
use Rattle.loops.specs.Sweeps.{first_gate}
use Rattle.case_split.specs.Cases.{IsUsable}
use Rattle.case_search.proofs.ShownLemmas.{usable-more}
use Rattle.case_search.proofs.cases_shown.are_usable.Goals as goal

pub loop-case-preserved : goal.loop-case-preserved
loop-case-preserved c =
    usable-more (first_gate c.args.net.now) c.args.cases.now c.loop-case.case-index c.case-item.result c.loop-case-test.true c.case-item.is c.loop-case.invariant (c.is_usable.ensures c.if-not-is_usable.false)

pub returns : goal.returns
returns c = λ h. subst (All (IsUsable (first_gate c.args.net.now))) (take_all c.loop-case.case-index c.args.cases.now c.loop-case-test.false) c.loop-case.invariant
