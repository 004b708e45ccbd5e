use Rattle.case_search.specs.Splits.{IsSplitOf}
use Rattle.case_search.proofs.SplitLemmas.{is_split, of_small, of_three}
use Rattle.case_search.proofs.splitting.split_shown.Goals as goal

pub returns : goal.returns
returns c =
    let net = c.args.net.now in
    let care = c.args.care.now in
    of_small (IsSplitOf net care) c.split.result c.split_if_small.result c.split_if_small.ensures
    (of_three _ _ _ (IsSplitOf net care)
    (λ other valid interface tells. is_split net other care c.args.cases.now (c.in_ok-are_cases.ensures.cases c.if-not-branch.false) valid interface tells)
    c.split.result c.split.ensures.valid c.split.ensures.interface c.split.ensures.tells)
