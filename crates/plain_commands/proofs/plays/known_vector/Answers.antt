use Rattle.std.proofs.Common.{arith}
use Rattle.std.proofs.lemmas.List.{map_more, take_all}
use Rattle.cyc_base.specs.declared.trit.Trit.TheVariants.{Zero}
use Rattle.care_sets.specs.Care.{is_one}
use Rattle.plain_commands.proofs.plays.known_vector.Goals as goal

pub loop-value-preserved : goal.loop-value-preserved
loop-value-preserved c = grind (arith, map_more is_one c.args.vector.now c.loop-value.value-index Zero)

pub returns : goal.returns
returns c = grind (arith, take_all c.loop-value.value-index c.args.vector.now)
