-- Marks of gates, and of all that lies upstream of them.
use Rattle.std.specs.Prelude.{◌≡◌, ◌⊎◌, ◌↔◌, ◌<◌, ◌≤◌, ℕ, Bool, true, false, List, length, Contains, slice_index_or}
use Rattle.netlist.specs.Netlists.{is_marked}
use Rattle.netlist.specs.declared.parts.Parts.{Parts}
use Rattle.netlist.specs.Walks.{Feeds}
use Rattle.loops.specs.declared.structure.Blocks.{Blocks}
use Rattle.loops.specs.Blocks.{home_of}
use Rattle.loops.specs.Walks.{IsUpstream}

-- the gate is marked, or a walk leads from it to a marked one
pub record LeadsToMark (net : Parts) (marks : List Bool) (m : ℕ) : Type 0 where
  pub gate : ℕ
  pub marked : is_marked marks gate ≡ true
  pub upstream : IsUpstream net m gate

-- just the gates upstream of those that were marked are marked: with a gate of a loop, so is the whole loop
pub record AreUpstreamMarks (net : Parts) (old new : List Bool) : Type 0 where
  pub width : length new ≡ length net.gates
  pub each : (m : ℕ) → m < length net.gates → (is_marked new m ≡ true) ↔ LeadsToMark net old m

-- the gate is one of these, or a walk leads from it to one
pub record LeadsToOne (net : Parts) (gates : List ℕ) (m : ℕ) : Type 0 where
  pub gate : ℕ
  pub among : Contains gates gate
  pub upstream : IsUpstream net m gate

-- just these gates and those upstream of them are marked
pub record IsConeOf (net : Parts) (gates : List ℕ) (marks : List Bool) : Type 0 where
  pub width : length marks ≡ length net.gates
  pub each : (m : ℕ) → m < length net.gates → (is_marked marks m ≡ true) ↔ LeadsToOne net gates m

-- ---- while they are marked

-- the marks are the earlier ones, and those of gates of this kind
pub record AddMarks (kind : ℕ → Type 0) (old new : List Bool) : Type 0 where
  pub width : length new ≡ length old
  pub keeps : (m : ℕ) → is_marked old m ≡ true → is_marked new m ≡ true
  pub adds : (m : ℕ) → kind m → is_marked new m ≡ true
  pub only : (m : ℕ) → is_marked new m ≡ true → (is_marked old m ≡ true) ⊎ kind m

-- the gate is on one of the first k pins of another
pub record IsOnPin (net : Parts) (k gate m : ℕ) : Type 0 where
  pub feeds : Feeds net m gate
  pub early : feeds.pin.0 < k

-- the gate is this one, or on a pin of it
abbrev pub IsNear : Parts → ℕ → ℕ → Type 0
IsNear net gate m = (m ≡ gate) ⊎ Feeds net m gate

-- or that of one of the first k of these
pub record IsNearOne (net : Parts) (gates : List ℕ) (k m : ℕ) : Type 0 where
  pub place : ℕ
  pub within : place < k
  pub near : IsNear net (slice_index_or gates place 0) m

-- one of these gates is marked
pub record HasMark (gates : List ℕ) (marks : List Bool) : Type 0 where
  pub gate : ℕ
  pub among : Contains gates gate
  pub marked : is_marked marks gate ≡ true

-- the gate is one of these or on a pin of one, where one of them is marked
pub record IsWithMark (net : Parts) (gates : List ℕ) (marks : List Bool) (m : ℕ) : Type 0 where
  pub mark : HasMark gates marks
  pub near : IsNearOne net gates (length gates) m

-- the first n gates that are marked, in flat order
pub record ListsMarked (marks : List Bool) (n : ℕ) (gates : List ℕ) : Type 0 where
  pub rise : (i j : ℕ) → i < j → j < length gates → slice_index_or gates i 0 < slice_index_or gates j 0
  pub each : (m : ℕ) → Contains gates m ↔ ((m < n) × (is_marked marks m ≡ true))

-- What is marked once the blocks from place b on have been passed: with each gate of them what is on its pins.
pub record AreMarkedFrom (net : Parts) (blocks : Blocks) (old : List Bool) (b : ℕ) (marks : List Bool) : Type 0 where
  pub width : length marks ≡ length net.gates
  pub keeps : (m : ℕ) → is_marked old m ≡ true → is_marked marks m ≡ true
  pub closed : (m n : ℕ) → Feeds net m n → b ≤ home_of blocks n → is_marked marks n ≡ true → is_marked marks m ≡ true
  pub only : (m : ℕ) → is_marked marks m ≡ true → LeadsToMark net old m
