use Rattle.loops.proofs.Walks.{cuts_leave_no_loop, each_cut_is_needed, loops_are_unique}
use Rattle.loops.proofs.Existence.{loops_exist}
use Rattle.loops.proofs.Told.{blocks_tell_loops, blocks_have_loops, other_blocks_are_single}
use Rattle.loops.proofs.laws.cuts_open_loops.Goals as goal

pub returns : goal.returns
returns c = record {
  no_loop = cuts_leave_no_loop;
  needed = each_cut_is_needed;
  exist = loops_exist;
  unique = loops_are_unique;
  told = blocks_tell_loops;
  gates = blocks_have_loops;
  single = other_blocks_are_single;
}
