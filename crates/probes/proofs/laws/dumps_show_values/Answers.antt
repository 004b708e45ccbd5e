use Rattle.probes.proofs.DumpLemmas.{dumps_show}
use Rattle.probes.proofs.laws.dumps_show_values.Goals as goal

pub returns : goal.returns
returns c = dumps_show
