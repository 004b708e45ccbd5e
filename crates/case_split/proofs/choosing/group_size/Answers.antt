use Rattle.case_split.proofs.ChoiceLemmas.{size_fits, size_some}
use Rattle.case_split.proofs.choosing.group_size.Goals as goal
use Rattle.std.proofs.Common.{refl}

pub returns-clause-some : goal.returns-clause-some
returns-clause-some c = size_some c.widest.result _ c.widest.ensures.few refl

pub returns-clause-fits : goal.returns-clause-fits
returns-clause-fits c = size_fits c.args.cases.now c.widest.result _ c.widest.ensures.each refl
