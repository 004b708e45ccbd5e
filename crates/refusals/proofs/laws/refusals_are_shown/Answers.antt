use Rattle.refusals.proofs.LawLemmas.{refusal_is_shown, undetermined_is_observed}
use Rattle.refusals.proofs.laws.refusals_are_shown.Goals as goal

pub returns-clause-shown : goal.returns-clause-shown
returns-clause-shown c = refusal_is_shown

pub returns-clause-observed : goal.returns-clause-observed
returns-clause-observed c = undetermined_is_observed
