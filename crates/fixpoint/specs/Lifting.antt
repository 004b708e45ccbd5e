-- The wires of a netlist without loops as rails while its gates are lifted in an order.
use Rattle.std.specs.Prelude.{◌≡◌, ◌<◌, ◌+◌, ℕ, Bool, List, length, map, All, slice_index, slice_set}
use Rattle.bdd_store.specs.Arena.{Arena}
use Rattle.cover_logic.specs.Covers.{value}
use Rattle.cover_logic.specs.Extensions.{ext}
use Rattle.cyc_base.specs.declared.sig.Sig.{Sig}
use Rattle.dual_rail.specs.declared.rail.Rails.{Rails}
use Rattle.dual_rail.specs.Rails.{AreRailsOf, value_of}
use Rattle.dual_rail.specs.WorkingLists.{BoundsEach, IsExtended}
use Rattle.netlist.specs.declared.parts.Parts.{Parts}
use Rattle.netlist.specs.Fixpoint.{fix_gates}
use Rattle.netlist.specs.Netlists.{count, gate_at}
use Rattle.loops.specs.Sweeps.{first_gate, value_in}
use Rattle.fixpoint.specs.Solved.{Vectors}
use Rattle.fixpoint.specs.Sweeping.{rails_at}

-- the rails of a pin
abbrev pub rails_of_pin : List Rails → Sig → Rails
rails_of_pin rails pin = rails_at rails pin.0

-- proper rails of each signal
pub record AreSignalRails (net : Parts) (a : Arena) (rails : List Rails) : Type 0 where
  pub width : length rails ≡ count net
  pub proper : All (AreRailsOf a) rails

-- w bounds each function that the gate's lift works with
abbrev pub BoundsGate : Parts → Arena → List Rails → ℕ → ℕ → Type 0
BoundsGate net a rails gate w =
    BoundsEach a.vars (IsExtended a (map (rails_of_pin rails) (gate_at net gate).pins) (value (gate_at net gate).cover)) w

-- the gate alone has new rails: its cover's on those of its pins
pub record IsLifted (net : Parts) (old new : Arena) (rails set : List Rails) (gate : ℕ) : Type 0 where
  pub made : Rails
  pub is : set ≡ slice_set rails (first_gate net + gate) made
  pub proper : AreRailsOf new made
  pub value : (bits : List Bool) → value_of new made bits
      ≡ ext (gate_at net gate).cover (map (λ pin. value_of old (rails_of_pin rails pin) bits) (gate_at net gate).pins)

-- inputs and latches have the values of the vector, and the first i gates of the order stand at the fixpoint
pub record AreLifted (net : Parts) (order : List ℕ) (a : Arena) (v : Vectors) (i : ℕ) (rails : List Rails) : Type 0 where
  pub wires : AreSignalRails net a rails
  pub vector : (bits : List Bool) → length (v bits) ≡ first_gate net
  pub given : (s : ℕ) (bits : List Bool) → s < first_gate net → value_of a (rails_at rails s) bits ≡ value_in (v bits) s
  pub gates : (j : ℕ) (bits : List Bool) → j < i →
      value_of a (rails_at rails (first_gate net + slice_index order j)) bits ≡ value_in (fix_gates net (v bits)) (slice_index order j)
