use Rattle.miters.proofs.RunLemmas.{equal_run_alike}
use Rattle.miters.proofs.laws.equal_netlists_run_alike.Goals as goal

pub returns : goal.returns
returns c = equal_run_alike
