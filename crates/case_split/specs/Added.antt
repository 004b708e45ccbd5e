-- Gates that are added behind the netlist's own, with names of their own.
use Rattle.std.specs.Prelude.{◌≡◌, ◌+◌, ◌++◌, ◌<◌, ◌≤◌, ℕ, List, length, All, slice_index_or}
use Rattle.cyc_base.specs.Names.{IsBlifName}
use Rattle.cyc_base.specs.declared.sig.Sig.{Sig}
use Rattle.cover_logic.specs.Covers.{Cover}
use Rattle.netlist.specs.declared.parts.Gate.{Gate}
use Rattle.netlist.specs.declared.parts.Parts.{Parts}
use Rattle.netlist.specs.Netlists.{count, no_gate, signal}
use Rattle.unroll.specs.Marks.{mark, copy_name}
use Rattle.case_split.specs.declared.operands.Operand.{Operand}
use Rattle.case_split.specs.Operands.{IsWithin, Tells}

-- the name of the added gate number i
pub record IsNewName (net : Parts) (i : ℕ) (name : List ℕ) : Type 0 where
  pub own : List ℕ
  pub fits : IsBlifName own
  pub is : name ≡ copy_name (mark net) i own

-- the added gate number i, which reads signals below a bound
pub record IsNewGate (net : Parts) (bound i : ℕ) (gate : Gate) : Type 0 where
  pub named : IsNewName net i gate.name
  pub pins : All (λ s. s.0 < bound) gate.pins
  pub counted : length gate.pins ≡ gate.cover.pins

abbrev pub AreNew : Parts → List Gate → Type 0
AreNew net gates = (i : ℕ) → i < length gates → IsNewGate net (count net + length gates) i (slice_index_or gates i no_gate)

-- a list goes on with at most so many more
pub record IsMore (old new : List Gate) (most : ℕ) : Type 0 where
  pub rest : List Gate
  pub is : new ≡ old ++ rest
  pub few : length rest ≤ most

-- the gate at this place has this cover and these pins
pub record IsAt (gates : List Gate) (cover : Cover) (pins : List Sig) (place : ℕ) : Type 0 where
  pub within : place < length gates
  pub cover_is : (slice_index_or gates place no_gate).cover ≡ cover
  pub pins_are : (slice_index_or gates place no_gate).pins ≡ pins

-- the added gate of this signal has this cover and these pins
pub record IsShared (net : Parts) (cover : Cover) (pins : List Sig) (old new : List Gate) (s : Sig) : Type 0 where
  pub place : ℕ
  pub at : IsAt new cover pins place
  pub is : s ≡ signal (count net + place)
  pub more : IsMore old new 1
  pub are : AreNew net new

-- a gate was added, or none, so that the operand tells at least what the cover does of those
pub record IsAdded (net : Parts) (cover : Cover) (operands : List Operand) (old new : List Gate) (operand : Operand) : Type 0 where
  pub tells : Tells (count net) new cover operands operand
  pub within : IsWithin (count net + length new) operand
  pub more : IsMore old new 1
  pub are : AreNew net new
