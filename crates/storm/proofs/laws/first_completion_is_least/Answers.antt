use Rattle.storm.proofs.LeastLemmas.{first_where_is_least}
use Rattle.storm.proofs.laws.first_completion_is_least.Goals as goal

pub returns : goal.returns
returns c = first_where_is_least
