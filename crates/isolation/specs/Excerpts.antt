-- Excerpts: some gates of a netlist taken by themselves, as a small netlist whose inputs are wires outside of them.
use Rattle.std.specs.Prelude.{◌≡◌, ◌≢◌, ◌<◌, ℕ, List, ◌++◌, length, map, slice_index_or, Contains}
use Rattle.cyc_base.specs.declared.sig.Sig.{Sig}
use Rattle.cyc_base.specs.declared.trit.Trit.{Trit}
use Rattle.netlist.specs.declared.parts.Parts.{Parts}
use Rattle.netlist.specs.Netlists.{signal, gate_at, gate_sig}
use Rattle.netlist.specs.Fixpoint.{wire, fix}
use Rattle.loops.specs.Walks.{SameLoop}

-- the signals of the small netlist as those of the whole: the wires outside, and then the gates
abbrev pub origins : Parts → List Sig → List ℕ → List Sig
origins net outside gates = outside ++ map (gate_sig net) gates

-- the signal of the whole that a signal of the small netlist is
abbrev pub origin : List Sig → Sig → Sig
origin signals s = slice_index_or signals s.0 (signal 0)

-- a gate by its place among these
abbrev pub gate_in : List ℕ → ℕ → ℕ
gate_in gates i = slice_index_or gates i 0

-- The small netlist has these wires as inputs, and these gates in their order: each has its cover, and reads what it
-- reads in the whole. The wires are outside of the gates.
pub record IsExcerpt (net : Parts) (outside : List Sig) (gates : List ℕ) (small : Parts) : Type 0 where
  pub inputs : length small.inputs ≡ length outside
  pub latches : length small.latches ≡ 0
  pub size : length small.gates ≡ length gates
  pub covers : (i : ℕ) → i < length gates → (gate_at small i).cover ≡ (gate_at net (gate_in gates i)).cover
  pub pins : (i : ℕ) → i < length gates →
      map (origin (origins net outside gates)) (gate_at small i).pins ≡ (gate_at net (gate_in gates i)).pins
  pub apart : (s : Sig) → Contains outside s → ¬ Contains (map (gate_sig net) gates) s

-- one of the gates reads this wire
pub record IsRead (net : Parts) (gates : List ℕ) (s : Sig) : Type 0 where
  pub place : ℕ
  pub within : place < length gates
  pub pin : Contains (gate_at net (gate_in gates place)).pins s

abbrev pub AreRead : Parts → List ℕ → List Sig → Type 0
AreRead net gates outside = (s : Sig) → Contains outside s → IsRead net gates s

-- each of these signals stands there once
abbrev pub AreOnce : List Sig → Type 0
AreOnce signals = (i j : ℕ) → i < j → j < length signals → slice_index_or signals i (signal 0) ≢ slice_index_or signals j (signal 0)

-- Gates that can be taken by themselves: in flat order, and with each loop that one of them is in.
pub record AreWhole (net : Parts) (gates : List ℕ) : Type 0 where
  pub within : (i : ℕ) → i < length gates → gate_in gates i < length net.gates
  pub rise : (i j : ℕ) → i < j → j < length gates → gate_in gates i < gate_in gates j
  pub loops : (i g : ℕ) → i < length gates → SameLoop net (gate_in gates i) g → Contains gates g

-- the values of the wires outside in the whole's fixpoint, which are the small netlist's vector
abbrev pub inputs_in : Parts → List Trit → List Sig → List Trit
inputs_in net v outside = map (wire (fix net v)) outside
