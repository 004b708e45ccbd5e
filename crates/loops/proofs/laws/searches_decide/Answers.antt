use Rattle.loops.proofs.Searches.{search_is_complete, blocks_by_numbers, loop_free_by_numbers}
use Rattle.loops.proofs.laws.searches_decide.Goals as goal

pub returns : goal.returns
returns c = record {
  complete = search_is_complete;
  blocks = blocks_by_numbers;
  loop_free = loop_free_by_numbers;
}
