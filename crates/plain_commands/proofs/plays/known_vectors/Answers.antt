use Rattle.std.proofs.Common.{arith}
use Rattle.std.specs.Prelude.{map}
use Rattle.std.proofs.lemmas.List.{map_more, take_all}
use Rattle.care_sets.specs.Care.{is_one}
use Rattle.plain_commands.proofs.plays.known_vectors.Goals as goal

pub loop-vector-preserved : goal.loop-vector-preserved
loop-vector-preserved c = grind (arith, map_more (map is_one) c.args.vectors.now c.loop-vector.vector-index c.vector-item.result)

pub returns : goal.returns
returns c = grind (arith, take_all c.loop-vector.vector-index c.args.vectors.now)
