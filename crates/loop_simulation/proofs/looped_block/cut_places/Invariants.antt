use Rattle.loop_simulation.proofs.Common.{is_cut, AreCutPlacesBelow}
use Rattle.loop_simulation.proofs.looped_block.cut_places.Given as goal

abbrev pub invariant-loop-place : goal.invariant-loop-place
invariant-loop-place l = AreCutPlacesBelow (is_cut l.wires) l.gates l.place l.places.items
