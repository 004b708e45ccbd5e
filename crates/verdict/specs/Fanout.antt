-- The fanout of gates: where walks along pins lead to from marked ones.
use Rattle.std.specs.Prelude.{◌≡◌, ◌⊎◌, ◌↔◌, ◌<◌, ℕ, Bool, true, List, length, Contains}
use Rattle.cyc_base.specs.declared.sig.Sig.{Sig}
use Rattle.netlist.specs.declared.parts.Parts.{Parts}
use Rattle.netlist.specs.Netlists.{gate_sig, is_marked}
use Rattle.netlist.specs.Walks.{Feeds}
use Rattle.loops.specs.declared.structure.Blocks.{Blocks}
use Rattle.loops.specs.Blocks.{home_of}
use Rattle.loops.specs.Walks.{IsUpstream}

-- the gate is marked, or a walk leads to it from a marked one
pub record LeadsFromMark (net : Parts) (marks : List Bool) (n : ℕ) : Type 0 where
  pub gate : ℕ
  pub marked : is_marked marks gate ≡ true
  pub upstream : IsUpstream net gate n

-- just the gates in the fanout of those that were marked are marked
pub record AreFanoutMarks (net : Parts) (old new : List Bool) : Type 0 where
  pub width : length new ≡ length net.gates
  pub each : (n : ℕ) → n < length net.gates → (is_marked new n ≡ true) ↔ LeadsFromMark net old n

-- ---- while they are found

-- a marked gate drives the signal
pub record HasMarkedDriver (net : Parts) (marks : List Bool) (s : Sig) : Type 0 where
  pub gate : ℕ
  pub within : gate < length net.gates
  pub is : s ≡ gate_sig net gate
  pub marked : is_marked marks gate ≡ true

-- a marked gate is on a pin of this one
pub record ReadsMark (net : Parts) (marks : List Bool) (n : ℕ) : Type 0 where
  pub gate : ℕ
  pub feeds : Feeds net gate n
  pub marked : is_marked marks gate ≡ true

-- one of these gates is marked, or reads a marked one
pub record AreReached (net : Parts) (gates : List ℕ) (marks : List Bool) : Type 0 where
  pub gate : ℕ
  pub among : Contains gates gate
  pub mark : (is_marked marks gate ≡ true) ⊎ ReadsMark net marks gate

-- the gate is one of these, where that is so
pub record IsReached (net : Parts) (gates : List ℕ) (marks : List Bool) (n : ℕ) : Type 0 where
  pub among : Contains gates n
  pub reached : AreReached net gates marks

-- What is marked once the blocks before place b have been passed: their gates that read a marked one.
pub record AreMarkedBefore (net : Parts) (blocks : Blocks) (old : List Bool) (b : ℕ) (marks : List Bool) : Type 0 where
  pub width : length marks ≡ length net.gates
  pub keeps : (n : ℕ) → is_marked old n ≡ true → is_marked marks n ≡ true
  pub closed : (m n : ℕ) → Feeds net m n → home_of blocks n < b → is_marked marks m ≡ true → is_marked marks n ≡ true
  pub only : (n : ℕ) → is_marked marks n ≡ true → LeadsFromMark net old n
