-- A loop at one vector, sweep by sweep.
use Rattle.std.specs.Prelude.{◌<◌, ◌==◌, ◌&&◌, ℕ, nat_le, Bool, if◌then◌else◌, List, Contains}
use Rattle.cyc_base.specs.declared.sig.Sig.{Sig}
use Rattle.cyc_base.specs.declared.trit.Trit.{Trit}
use Rattle.cyc_base.specs.Values.{bits}
use Rattle.netlist.specs.declared.parts.Parts.{Parts}
use Rattle.netlist.specs.Fixpoint.{wire}
use Rattle.loops.specs.Blocks.{home_of}
use Rattle.loops.specs.Cuts.{Loops, is_cut}
use Rattle.loops.specs.Sweeps.{CutsAreFixed, first_gate, gate_of, value_in}
use Rattle.loop_simulation.specs.LoopsAt.{LoopAt}

-- What a gate of the loop sees of a signal: a cut wire of the loop as it was before the sweep, another gate of it as it is,
-- and all else as it is outside.
abbrev pub seen_of : LoopAt → (outside before after : List Trit) → Sig → Trit
seen_of l outside before after pin =
    if nat_le (first_gate l.net) pin.0 && home_of l.blocks (gate_of l.net pin) == l.number
    then (if is_cut l.cut.wires (gate_of l.net pin) then value_in before (gate_of l.net pin) else value_in after (gate_of l.net pin))
    else wire outside pin

-- so many sweeps of the loop of these gates are enough at the vector, and no fewer are
pub record IsCountAt (net : Parts) (loops : Loops) (v : List Bool) (gates : List ℕ) (m : ℕ) : Type 0 where
  pub enough : (a : ℕ) → Contains gates a → CutsAreFixed net loops (bits v) a m
  pub least : (a k : ℕ) → Contains gates a → k < m → ¬ CutsAreFixed net loops (bits v) a k
