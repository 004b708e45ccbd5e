-- What blocks and a cut tell of the loops of their netlist.
use Rattle.std.proofs.Common.{◌≡◌, ℕ}
use Rattle.loops.proofs.Common.{in_one_loop, is_cut, loops_of, Looped}
use Rattle.loops.specs.Cuts.{loops_by}
use Rattle.loops.proofs.Existence.{loops_exist}
use Rattle.loops.proofs.Told.{blocks_tell_loops}
use Rattle.loops.proofs.Walks.{loops_are_unique}
use Rattle.loops.specs.Looped.{IsLooped}

pub one_loop_is_told : (l : Looped) → IsLooped l → (a b : ℕ) → in_one_loop l.blocks a b ≡ (loops_of l.net).same a b
one_loop_is_told l is = (loops_are_unique l.net (loops_by l.blocks l.cut) (loops_of l.net) (blocks_tell_loops l.net l.blocks l.cut is.blocks is.cut) (loops_exist l.net)).0

pub cut_is_told : (l : Looped) → IsLooped l → (n : ℕ) → is_cut l.cut.wires n ≡ (loops_of l.net).cut n
cut_is_told l is = (loops_are_unique l.net (loops_by l.blocks l.cut) (loops_of l.net) (blocks_tell_loops l.net l.blocks l.cut is.blocks is.cut) (loops_exist l.net)).1
