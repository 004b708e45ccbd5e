use Rattle.refusals.proofs.LawLemmas.{accepted_without_refusal}
use Rattle.refusals.proofs.laws.refused_where_not_accepted.Goals as goal

pub returns : goal.returns
returns c = accepted_without_refusal
