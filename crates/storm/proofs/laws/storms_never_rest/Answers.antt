use Rattle.storm.proofs.StormLemmas.{storms_never_rest}
use Rattle.storm.proofs.laws.storms_never_rest.Goals as goal

pub returns : goal.returns
returns c = storms_never_rest c.faults_are_unfairness.ensures
