use Rattle.schedules.proofs.HarmlessLemmas.{accepted_is_harmless}
use Rattle.schedules.proofs.laws.accepted_netlists_are_harmless.Goals as goal

pub returns : goal.returns
returns c = accepted_is_harmless
