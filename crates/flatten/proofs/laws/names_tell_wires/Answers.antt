use Rattle.flatten.proofs.Telling.{names_tell}
use Rattle.flatten.proofs.laws.names_tell_wires.Goals as goal

pub returns : goal.returns
returns c = names_tell
