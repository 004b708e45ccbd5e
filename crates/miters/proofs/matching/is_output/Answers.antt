use Rattle.std.proofs.Common.{arith}
use Rattle.miters.proofs.NameLemmas.{output_found}
use Rattle.miters.proofs.matching.is_output.Goals as goal

pub returns-in-Some : goal.returns-in-Some
returns-in-Some c = grind (arith, output_found c.args.net.now c.args.name.now c.in-Some.signal.0 c.find.ensures.valid c.in-Some.ensures.found)
