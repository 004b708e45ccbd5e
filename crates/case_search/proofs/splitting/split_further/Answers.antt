use Rattle.case_search.specs.Splits.{IsSplitOf}
use Rattle.case_search.proofs.KeptLemmas.{care_kept}
use Rattle.case_search.proofs.SplitLemmas.{of_some, split_through}
use Rattle.case_search.proofs.splitting.split_further.Goals as goal

pub split_region-requires-2-clause-care : goal.split_region-requires-2-clause-care
split_region-requires-2-clause-care c =
    let net = c.args.net.now in
    let care = c.args.care.now in
    let is = of_some (IsSplitOf net care) c.args.made c.in-Some.other c.in-Some.is c.requires.made in
    care_kept net c.in-Some.other is.interface care c.requires.care

pub returns-in-Some-2 : goal.returns-in-Some-2
returns-in-Some-2 c =
    let net = c.args.net.now in
    let care = c.args.care.now in
    split_through net c.in-Some.other c.in-Some-2.next care
    (of_some (IsSplitOf net care) c.args.made c.in-Some.other c.in-Some.is c.requires.made)
    (of_some (IsSplitOf c.in-Some.other care) c.in_ok-next.field-0 c.in-Some-2.next c.in-Some-2.is c.in_ok-next.ensures)
