use Rattle.verdict.proofs.CandidateLemmas.{open-known}
use Rattle.verdict.proofs.DeterminationLemmas.{determination-loose, none-undetermined, open-determine}
use Rattle.verdict.proofs.determinacy.determinacy_on_care.Goals as goal

pub returns-in-Nowhere : goal.returns-in-Nowhere
returns-in-Nowhere c =
    let s = c.args.question.now in
    let is = c.laws.ensures.is in
    let none = rw (c.in-Nowhere.is, c.deref.ensures.value) at c.in_ok-found.ensures in
    let all = open-determine s.net is.net s.blocks is.blocks s.care s.settled is.settled (open-known s.net s.blocks s.care s.settled c.in_ok-gates.gates.items c.in_ok-gates.ensures none) in
    record { none = none-undetermined s.net s.care c.args.question.now.what all; number = determination-loose s.net s.care all }
