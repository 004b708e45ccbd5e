use Rattle.std.proofs.Common.{arith}
use Rattle.care_sets.proofs.BindingLemmas.{input_name}
use Rattle.miters.proofs.NameLemmas.{find_next, find_here}
use Rattle.miters.proofs.matching.first_other_input.Goals as goal

pub loop-number-preserved : goal.loop-number-preserved
loop-number-preserved c =
    let net = c.args.net.now in
    grind (arith, find_next, input_name net c.loop-number.number c.name_of-name.result.now)

pub returns-then-not-is_input : goal.returns-then-not-is_input
returns-then-not-is_input c =
    let net = c.args.net.now in
    grind (arith, find_here, input_name net c.loop-number.number c.name_of-name.result.now)
