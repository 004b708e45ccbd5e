use Rattle.flatten.proofs.Common.{lines_of}
use Rattle.flatten.proofs.Placing.{has_signals}
use Rattle.flatten.proofs.link.link.Goals as goal

pub parts_of-requires-clause-signals : goal.parts_of-requires-clause-signals
parts_of-requires-clause-signals c = has_signals c.args.top.now (lines_of c.args.lines) c.in_ok-drivers.drivers c.in_ok-drivers.ensures.drivers c.requires.inputs c.requires.lines
