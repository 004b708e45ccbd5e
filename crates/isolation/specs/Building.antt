-- A small netlist while it is made.
use Rattle.std.specs.Prelude.{◌≡◌, ◌⊎◌, ◌<◌, ◌≤◌, ◌+◌, ℕ, List, [], None, length, map, All, Contains, slice_index_or}
use Rattle.cyc_base.specs.declared.sig.Sig.{Sig}
use Rattle.netlist.specs.declared.parts.Gate.{Gate}
use Rattle.netlist.specs.declared.parts.Parts.{Parts}
use Rattle.netlist.specs.Netlists.{gate_at, gate_sig, no_gate, signal_names}
use Rattle.loops.specs.Placing.{Rise}
use Rattle.isolation.specs.Excerpts.{origin, origins, gate_in, IsRead, AreOnce, AreRead, IsExcerpt}

-- a wire that a gate's pin reads, outside of these gates
pub record IsOutside (net : Parts) (gates : List ℕ) (s : Sig) : Type 0 where
  pub apart : ¬ Contains (map (gate_sig net) gates) s
  pub read : IsRead net gates s

-- each of these is such a wire
abbrev pub AreOutside : Parts → List ℕ → List Sig → Type 0
AreOutside net gates outside = (s : Sig) → Contains outside s → IsOutside net gates s

-- and each is there once
pub record AreWires (net : Parts) (gates : List ℕ) (outside : List Sig) : Type 0 where
  pub are : AreOutside net gates outside
  pub once : AreOnce outside

-- a signal is one of these wires, or one of the gates
abbrev pub IsAmong : Parts → List ℕ → List Sig → Sig → Type 0
IsAmong net gates outside s = Contains outside s ⊎ Contains (map (gate_sig net) gates) s

-- the wires that some pins read outside of the gates are added
pub record AddWires (net : Parts) (gates : List ℕ) (pins old new : List Sig) : Type 0 where
  pub wires : AreWires net gates new
  pub keeps : (s : Sig) → Contains old s → Contains new s
  pub adds : (s : Sig) → Contains pins s → IsAmong net gates new s

-- what the first k of the gates read is among the wires and the gates
abbrev pub AreReadWithin : Parts → List ℕ → List Sig → ℕ → Type 0
AreReadWithin net gates outside k = (i : ℕ) → i < k → (s : Sig) → Contains (gate_at net (gate_in gates i)).pins s → IsAmong net gates outside s

-- just the wires outside that the first k gates read
pub record AreWiresOf (net : Parts) (gates : List ℕ) (k : ℕ) (outside : List Sig) : Type 0 where
  pub wires : AreWires net gates outside
  pub all : AreReadWithin net gates outside k

-- each of these wires is outside of the gates
abbrev pub AreApart : Parts → List ℕ → List Sig → Type 0
AreApart net gates outside = (s : Sig) → Contains outside s → ¬ Contains (map (gate_sig net) gates) s

-- The gates can be taken out with these wires as inputs: all that they read is among the wires and the gates.
pub record AreClosed (net : Parts) (gates : List ℕ) (outside : List Sig) : Type 0 where
  pub rise : Rise gates
  pub once : AreOnce outside
  pub read : AreReadWithin net gates outside (length gates)

-- their signals can be numbered
pub record AreNumerable (gates : List ℕ) (outside : List Sig) : Type 0 where
  pub rise : Rise gates
  pub fits : length outside + length gates ≤ 4294967295

-- a value stands at this place of a list
pub record IsPlaceOf {T : Type 0} (xs : List T) (x : T) (place : ℕ) : Type 0 where
  pub within : place < length xs
  pub is : slice_index_or xs place x ≡ x

-- the numbers of what some pins read
pub record AreNumbersOf (signals pins numbers : List Sig) : Type 0 where
  pub are : map (origin signals) numbers ≡ pins
  pub within : All (λ s. s.0 < length signals) numbers

-- a gate with another's name and cover, that reads the same by other numbers
pub record IsCopyOf (signals : List Sig) (gate made : Gate) : Type 0 where
  pub name : made.name ≡ gate.name
  pub cover : made.cover ≡ gate.cover
  pub pins : AreNumbersOf signals gate.pins made.pins

-- the first gates are copied
pub record AreCopies (net : Parts) (signals : List Sig) (gates : List ℕ) (made : List Gate) (n : ℕ) : Type 0 where
  pub size : length made ≡ n
  pub each : (i : ℕ) → i < n → IsCopyOf signals (gate_at net (gate_in gates i)) (slice_index_or made i no_gate)

-- the name of a signal
abbrev pub name_at : Parts → Sig → List ℕ
name_at net s = slice_index_or (signal_names net) s.0 []

-- The other parts of an excerpt: names are those of the whole, and pins read signals of its own.
pub record IsNamedBy (net : Parts) (outside : List Sig) (gates : List ℕ) (small : Parts) : Type 0 where
  pub name : small.name ≡ net.name
  pub inputs : small.inputs ≡ map (name_at net) outside
  pub copies : (i : ℕ) → i < length gates → (gate_at small i).name ≡ (gate_at net (gate_in gates i)).name
  pub pins : (i : ℕ) → i < length gates → All (λ s. s.0 < length (origins net outside gates)) (gate_at small i).pins
  pub latches : small.latches ≡ []
  pub outputs : small.outputs ≡ []
  pub clock : small.clock ≡ None

-- the small netlist of these gates, whose inputs are just the wires outside that they read, each once
pub record IsLoopNetlist (net : Parts) (gates : List ℕ) (small : Parts) : Type 0 where
  pub outside : List Sig
  pub is : IsExcerpt net outside gates small
  pub read : AreRead net gates outside
  pub once : AreOnce outside
