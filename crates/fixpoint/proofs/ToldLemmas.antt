-- The loops that blocks and a cut tell.
use Rattle.std.proofs.Common.{◌≡◌, arith}
use Rattle.std.proofs.Math.Path.{fun_ext}
use Rattle.fixpoint.proofs.Common.{AreBlocksOf, Blocks, Cut, IsCutOf, Parts, blocks_tell_loops, loops_by}
use Rattle.loops.specs.Found.{loops_of}
use Rattle.loops.proofs.Existence.{loops_exist}
use Rattle.loops.proofs.Walks.{loops_are_unique}

-- they are those of the netlist
pub loops-are : (net : Parts) (blocks : Blocks) (cut : Cut) → AreBlocksOf net blocks → IsCutOf net cut → loops_by blocks cut ≡ loops_of net
loops-are net blocks cut are cut_is = grind (arith, loops_are_unique net (loops_by blocks cut) (loops_of net) (blocks_tell_loops net blocks cut are cut_is) (loops_exist net), blocks_tell_loops net blocks cut are cut_is, loops_exist net, fun_ext)
