use Rattle.std.proofs.Common.{arith}
use Rattle.std.specs.Prelude.{codes}
use Rattle.blif_write.proofs.NameLemmas.{last_input_is}
use Rattle.blif_write.proofs.names.last_input.Goals as goal

pub returns-in_default : goal.returns-in_default
returns-in_default c = grind (arith, last_input_is c.args.net.now (codes ".inputs"))
