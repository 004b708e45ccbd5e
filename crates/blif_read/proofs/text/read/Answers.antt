use Rattle.blif_read.proofs.FlattenLemmas.{can_be_flattened}
use Rattle.blif_read.proofs.text.read.Goals as goal

pub returns-clause-flat : goal.returns-clause-flat
returns-clause-flat c = λ few. can_be_flattened c.args.bytes.now c.in_ok-list.list c.in_ok-list.ensures few
