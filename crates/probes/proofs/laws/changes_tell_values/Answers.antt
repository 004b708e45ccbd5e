use Rattle.probes.proofs.ValueLemmas.{changes_tell}
use Rattle.probes.proofs.laws.changes_tell_values.Goals as goal

pub returns : goal.returns
returns c = changes_tell
