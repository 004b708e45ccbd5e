-- Blocks that are stable, at the fixpoint of some vector, though the vector may have changed since they were settled.
use Rattle.std.specs.Prelude.{◌≡◌, ◌<◌, ℕ, Bool, true, false, List, length, slice_index_or, Contains, take}
use Rattle.cyc_base.specs.declared.sig.Sig.{Sig}
use Rattle.cyc_base.specs.declared.trit.Trit.{Trit}
use Rattle.netlist.specs.declared.parts.Parts.{Parts}
use Rattle.netlist.specs.Netlists.{count, gate_at, gate_sig}
use Rattle.netlist.specs.Fixpoint.{wire, fix}
use Rattle.loops.specs.declared.structure.Blocks.{Blocks}
use Rattle.loops.specs.Blocks.{home_of}
use Rattle.loops.specs.Sweeps.{first_gate}

-- the vector that the wires hold: the values of the inputs and then of the latches
abbrev pub vector_of : Parts → List Trit → List Trit
vector_of net values = take (first_gate net) values

-- a gate has the value that it has at the fixpoint of this vector
abbrev pub IsAtFix : Parts → List Trit → List Trit → ℕ → Type 0
IsAtFix net vector values n = wire values (gate_sig net n) ≡ wire (fix net vector) (gate_sig net n)

-- the gates of the block at this place, and all that they read, have the values of the fixpoint of some vector
pub record IsStable (net : Parts) (blocks : Blocks) (values : List Trit) (place : ℕ) : Type 0 where
  pub vector : List Trit
  pub width : length vector ≡ first_gate net
  pub gates : (n : ℕ) → n < length net.gates → home_of blocks n ≡ place → IsAtFix net vector values n
  pub pins : (n : ℕ) (s : Sig) → n < length net.gates → home_of blocks n ≡ place → Contains (gate_at net n).pins s → wire values s ≡ wire (fix net vector) s

-- whether the block at this place is to be settled anew
abbrev pub is_due : List Bool → ℕ → Bool
is_due due place = slice_index_or due place true

-- each signal has a value, and each block that is not due is stable
pub record AreKept (net : Parts) (blocks : Blocks) (values : List Trit) (due : List Bool) : Type 0 where
  pub width : length values ≡ count net
  pub flags : length due ≡ length blocks.list
  pub stable : (place : ℕ) → is_due due place ≡ false → IsStable net blocks values place

-- the gates of all blocks before this place have the values of the fixpoint of the vector that the wires hold
pub record AreSettled (net : Parts) (blocks : Blocks) (values : List Trit) (place : ℕ) : Type 0 where
  pub each : (n : ℕ) → n < length net.gates → home_of blocks n < place → IsAtFix net (vector_of net values) values n
