-- The graph of the unknown gates.
use Rattle.std.specs.Prelude.{◌≡◌, ◌≤◌, ◌<◌, ◌+◌, ◌-◌, ◌↔◌, ℕ, List, length, map, slice_get, slice_index_or, Contains, Some}
use Rattle.cyc_base.specs.declared.sig.Sig.{Sig}
use Rattle.cyc_base.specs.declared.trit.Trit.{Trit}
use Rattle.cyc_base.specs.declared.trit.Trit.TheVariants.{X}
use Rattle.components.specs.Graphs.{successors}
use Rattle.netlist.specs.declared.parts.Parts.{Parts}
use Rattle.netlist.specs.declared.parts.Gate.{Gate}
use Rattle.netlist.specs.Fixpoint.{wire}
use Rattle.netlist.specs.Netlists.{signal}
use Rattle.explanations.specs.Matters.{Matters, Sways}
use Rattle.explanations.specs.Explained.{IsUnknown}

-- an unknown gate's signal, where the gates' signals are numbered from `first` on
pub record IsOpenSignal (first : ℕ) (known : List Trit) (n : ℕ) : Type 0 where
  pub behind : first ≤ n
  pub unknown : slice_index_or known n X ≡ X

-- a pin of the gate that matters reads the signal
pub record ReadsBy (known : List Trit) (gate : Gate) (s : Sig) : Type 0 where
  pub pin : ℕ
  pub reads : slice_get gate.pins pin ≡ Some s
  pub matters : Matters gate.cover (map (wire known) gate.pins) pin

-- a pin of the gate reads an unknown gate, and matters
pub record IsOpenRead (first : ℕ) (known : List Trit) (gate : Gate) (pin : ℕ) : Type 0 where
  pub open_signal : IsOpenSignal first known (slice_index_or gate.pins pin (signal 0)).0
  pub matters : Matters gate.cover (map (wire known) gate.pins) pin

-- the unknown gates on those of the first n pins that matter
pub record HasOpenReads (first : ℕ) (known : List Trit) (gate : Gate) (n : ℕ) (reads : List ℕ) : Type 0 where
  pub all : (k : ℕ) → k < n → IsOpenRead first known gate k → Contains reads ((slice_index_or gate.pins k (signal 0)).0 - first)
  pub only : (g : ℕ) → Contains reads g → ReadsBy known gate (signal (first + g))

-- a flip of an unknown gate may flip another
pub record OpenSways (net : Parts) (known : List Trit) (a b : ℕ) : Type 0 where
  pub sways : Sways net known a b
  pub source : IsUnknown net known a
  pub reader : IsUnknown net known b

abbrev pub ReadsOpen : Parts → List Trit → ℕ → List ℕ → Type 0
ReadsOpen net known gate reads = (a : ℕ) → Contains reads a ↔ OpenSways net known a gate

-- an edge leads from each of the first n gates, where it is unknown, to the unknown gates a flip of which may flip it
pub record IsOpenGraph (net : Parts) (known : List Trit) (n : ℕ) (graph : List (List ℕ)) : Type 0 where
  pub size : length graph ≡ n
  pub reads : (b : ℕ) → b < n → ReadsOpen net known b (successors graph b)
