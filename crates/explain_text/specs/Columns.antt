-- The columns that a gate speaks of: the inputs and latches that are read upstream of it, by itself or by what drives it.
use Rattle.std.specs.Prelude.{◌≡◌, ◌↔◌, ◌<◌, ◌==◌, ◌&&◌, ◌||◌, ℕ, Bool, true, List, length, filter, Contains}
use Rattle.std.specs.List.{list_any, range_with_len}
use Rattle.cyc_base.specs.declared.sig.Sig.{Sig}
use Rattle.netlist.specs.declared.parts.Parts.{Parts}
use Rattle.netlist.specs.Netlists.{gate_at, signal, is_marked}
use Rattle.loops.specs.Found.{reaches}
use Rattle.loops.specs.Listed.{gate_numbers}
use Rattle.loops.specs.Sweeps.{first_gate}
use Rattle.loops.specs.Walks.{IsUpstream}
use Rattle.refusals.specs.Refusals.{is_among}

-- whether gate m is n, or a walk along pins leads from it to n
abbrev pub is_upstream : Parts → ℕ → ℕ → Bool
is_upstream net n m = m == n || reaches net (λ g. true) (length net.gates) m n

-- whether a gate upstream of n has the column on a pin
abbrev pub is_read : Parts → ℕ → ℕ → Bool
is_read net n column = list_any (λ m. is_upstream net n m && is_among (gate_at net m).pins (signal column)) (gate_numbers net)

-- the columns that gate n speaks of, in their order
abbrev pub columns_read : Parts → ℕ → List ℕ
columns_read net n = filter (is_read net n) (range_with_len 0 (first_gate net))

-- ---- as marks

-- just the gates upstream of n are marked
pub record AreUpstreamOf (net : Parts) (n : ℕ) (marks : List Bool) : Type 0 where
  pub width : length marks ≡ length net.gates
  pub each : (m : ℕ) → m < length net.gates → (is_marked marks m ≡ true) ↔ IsUpstream net m n

-- just the columns that gate n speaks of are marked
pub record AreColumnsRead (net : Parts) (n : ℕ) (marks : List Bool) : Type 0 where
  pub width : length marks ≡ first_gate net
  pub each : (column : ℕ) → column < first_gate net → is_marked marks column ≡ is_read net n column

-- the marked columns, in their order
abbrev pub marked_columns : Parts → List Bool → List ℕ
marked_columns net marks = filter (is_marked marks) (range_with_len 0 (first_gate net))

-- ---- while they are found

-- the signal is this column
pub record IsColumn (width : ℕ) (s : Sig) (column : ℕ) : Type 0 where
  pub within : column < width
  pub is : s ≡ signal column

-- the column is one of these pins
pub record IsAmong (width : ℕ) (pins : List Sig) (column : ℕ) : Type 0 where
  pub within : column < width
  pub pin : Contains pins (signal column)

-- the column is a pin of a gate that is marked
pub record IsReadBy (net : Parts) (marks : List Bool) (gate column : ℕ) : Type 0 where
  pub marked : is_marked marks gate ≡ true
  pub pin : IsAmong (first_gate net) (gate_at net gate).pins column

-- or of one of the first k gates that is
pub record IsReadBelow (net : Parts) (marks : List Bool) (k column : ℕ) : Type 0 where
  pub gate : ℕ
  pub below : gate < k
  pub read : IsReadBy net marks gate column
