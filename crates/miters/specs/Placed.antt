-- The second netlist where it stands in the first, gate by gate.
use Rattle.std.specs.Prelude.{◌≡◌, ◌<◌, ◌≤◌, ◌-◌, ℕ, nat_lt, if◌then◌else◌, List, length, map, slice_index_or}
use Rattle.cyc_base.specs.declared.sig.Sig.{Sig}
use Rattle.cover_logic.specs.Covers.{Cover}
use Rattle.netlist.specs.declared.parts.Parts.{Parts}
use Rattle.netlist.specs.Netlists.{signal, count, gate_at, columns}
use Rattle.miters.specs.Differences.{columns_by_name}

-- A signal of the second netlist as one of the first, by the first one's columns of the second one's names, and a signal of
-- the first for each gate of the second.
abbrev pub placed_by : List ℕ → List ℕ → Sig → Sig
placed_by table places s = if nat_lt s.0 (length table) then signal (slice_index_or table s.0 0) else signal (slice_index_or places (s.0 - length table) 0)

abbrev pub placed : Parts → Parts → List ℕ → Sig → Sig
placed a b places = placed_by (columns_by_name a b) places

-- the number of the first one's gate at which a gate of the second stands
abbrev pub place_in : Parts → List ℕ → ℕ → ℕ
place_in a places n = slice_index_or places n 0 - columns a

-- a signal is a gate of this cover that reads these
pub record IsGate (net : Parts) (s : ℕ) (cover : Cover) (pins : List Sig) : Type 0 where
  pub above : columns net ≤ s
  pub below : s < count net
  pub cover_is : (gate_at net (s - columns net)).cover ≡ cover
  pub pins_are : (gate_at net (s - columns net)).pins ≡ pins

-- a gate of the second netlist stands at a gate of the first that has its cover and reads what it reads
abbrev pub StandsAt : Parts → Parts → List ℕ → List ℕ → ℕ → Type 0
StandsAt a b table places n = IsGate a (slice_index_or places n 0) (gate_at b n).cover (map (placed_by table places) (gate_at b n).pins)

-- each gate does
abbrev pub StandIn : Parts → Parts → List ℕ → List ℕ → Type 0
StandIn a b table places = (n : ℕ) → n < length b.gates → StandsAt a b table places n
