-- What stands for each signal in a case.
use Rattle.std.specs.Prelude.{◌≡◌, ◌⊎◌, ◌+◌, ◌<◌, ℕ, Bool, true, false, List, length, All, slice_index_or}
use Rattle.cyc_base.specs.declared.sig.Sig.{Sig}
use Rattle.cyc_base.specs.declared.trit.Trit.{Trit}
use Rattle.cyc_base.specs.declared.trit.Trit.TheVariants.{Zero, One, X}
use Rattle.cyc_base.specs.Values.{bit}
use Rattle.netlist.specs.declared.parts.Gate.{Gate}
use Rattle.netlist.specs.declared.parts.Parts.{Parts}
use Rattle.netlist.specs.Fixpoint.{wire}
use Rattle.netlist.specs.Netlists.{count, gate_at, gate_sig, signal}
use Rattle.case_split.specs.declared.operands.Operand.{Operand}
use Rattle.case_split.specs.declared.operands.Operand.TheVariants.{Constant, Wire}
use Rattle.case_split.specs.Operands.{IsWithin, Tells}
use Rattle.case_split.specs.Added.{AreNew, IsMore}

-- what stands for a signal
abbrev pub operand_at : List Operand → Sig → Operand
operand_at table s = slice_index_or table s.0 (Wire s)

-- it is the constant that these values of the signals say
pub record IsKnownBy (values : List Trit) (s : Sig) (operand : Operand) : Type 0 where
  pub value : Bool
  pub is : operand ≡ Constant value
  pub known : wire values s ≡ bit value

-- it is the signal itself, or known
abbrev pub IsPlain : List Trit → Sig → Operand → Type 0
IsPlain values s operand = (operand ≡ Wire s) ⊎ IsKnownBy values s operand

-- what stands for a gate tells what its cover does of operands, each of which is the pin itself or stands for it
pub record IsCopy (net : Parts) (first : ℕ) (more : List Gate) (table : List Operand) (n : ℕ) : Type 0 where
  pub operands : List Operand
  pub width : length operands ≡ length (gate_at net n).pins
  pub each : (i : ℕ) (d : Sig) → i < length (gate_at net n).pins →
      (slice_index_or operands i (Wire d) ≡ Wire (slice_index_or (gate_at net n).pins i d))
      ⊎ (slice_index_or operands i (Wire d) ≡ operand_at table (slice_index_or (gate_at net n).pins i d))
  pub tells : Tells first more (gate_at net n).cover operands (operand_at table (gate_sig net n))

-- the signal is a gate's, and the gate has a copy
pub record IsCopied (net : Parts) (first : ℕ) (more : List Gate) (table : List Operand) (s : Sig) : Type 0 where
  pub gate : ℕ
  pub within : gate < length net.gates
  pub is : s ≡ gate_sig net gate
  pub copy : IsCopy net first more table gate

-- a gate is known, or it has a copy
abbrev pub IsMade : Parts → List Trit → ℕ → List Gate → List Operand → ℕ → Type 0
IsMade net values first more table n = IsKnownBy values (gate_sig net n) (operand_at table (gate_sig net n)) ⊎ IsCopy net first more table n

-- a table has an operand for each signal: itself, what is known, or a copy; and the gates that are copied are made
pub record IsTable (net : Parts) (copied : ℕ → Bool) (values : List Trit) (first : ℕ) (more : List Gate) (table : List Operand) : Type 0 where
  pub width : length table ≡ count net
  pub each : (s : Sig) → s.0 < count net → IsPlain values s (operand_at table s) ⊎ IsCopied net first more table s
  pub made : (n : ℕ) → n < length net.gates → copied n ≡ true → IsMade net values first more table n

-- ---- while gates are copied

-- what stands for a signal of this value before any gate is copied
abbrev pub plain_of : Trit → Sig → Operand
plain_of Zero s = Constant false
plain_of One s = Constant true
plain_of X s = Wire s

pub record ArePlain (values : List Trit) (table : List Operand) : Type 0 where
  pub width : length table ≡ length values
  pub each : (i : ℕ) → i < length values → slice_index_or table i (Wire (signal i)) ≡ plain_of (slice_index_or values i X) (signal i)

-- each signal stands for itself, or it is known, or it is copied
abbrev pub AreStanding : Parts → List Trit → List Gate → List Operand → Type 0
AreStanding net values more table = (s : Sig) → s.0 < count net → IsPlain values s (operand_at table s) ⊎ IsCopied net (count net) more table s

-- after one gate was copied, whatever the values are
pub record IsCopyStep (net : Parts) (n : ℕ) (old new : List Gate) (before after : List Operand) : Type 0 where
  pub more : IsMore old new 1
  pub are : AreNew net new
  pub width : length after ≡ count net
  pub within : All (IsWithin (count net + length new)) after
  pub stand : (values : List Trit) → AreStanding net values old before → AreStanding net values new after
  pub made : (values : List Trit) → AreStanding net values old before → IsMade net values (count net) new after n
  pub stays : (values : List Trit) (m : ℕ) → m < length net.gates → IsMade net values (count net) old before m → IsMade net values (count net) new after m

-- after these gates were
pub record AreCopySteps (net : Parts) (gates : List ℕ) (old new : List Gate) (before after : List Operand) : Type 0 where
  pub more : IsMore old new (length gates)
  pub are : AreNew net new
  pub width : length after ≡ count net
  pub within : All (IsWithin (count net + length new)) after
  pub stand : (values : List Trit) → AreStanding net values old before → AreStanding net values new after
  pub made : (values : List Trit) → AreStanding net values old before → All (IsMade net values (count net) new after) gates
