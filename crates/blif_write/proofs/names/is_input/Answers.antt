use Rattle.std.proofs.Common.{arith}
use Rattle.blif_write.proofs.NameLemmas.{clock_is_input, clock_is_no_input}
use Rattle.blif_write.proofs.names.is_input.Goals as goal

pub returns-in-Some : goal.returns-in-Some
returns-in-Some c = grind (arith, clock_is_input c.args.net.now c.args.clock.now c.in-Some.field-0 c.find.ensures.valid c.requires c.in-Some.ensures.found)

pub returns-in-None : goal.returns-in-None
returns-in-None c = grind (arith, clock_is_no_input c.args.net.now c.args.clock.now c.find.ensures.valid c.requires c.in-None.ensures.absent)
