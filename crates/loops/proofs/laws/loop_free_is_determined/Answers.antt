use Rattle.loops.proofs.Told.{loop_free_by_blocks}
use Rattle.loops.proofs.Determined.{loop_free_is_determined}
use Rattle.loops.proofs.laws.loop_free_is_determined.Goals as goal

pub returns : goal.returns
returns c = record {
  no_block = loop_free_by_blocks;
  determined = loop_free_is_determined;
}
