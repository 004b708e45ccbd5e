use Rattle.flatten.proofs.Files.{walk_names_wires, signals_name_wires}
use Rattle.flatten.proofs.laws.flat_names_are_wires.Goals as goal

pub returns-clause-lines : goal.returns-clause-lines
returns-clause-lines c = walk_names_wires

pub returns-clause-signals : goal.returns-clause-signals
returns-clause-signals c = signals_name_wires
