-- The graph of a netlist's gates, and the orders in which a gate stands after those that it reads.
use Rattle.std.specs.Prelude.{◌≡◌, ◌+◌, ◌-◌, ◌<◌, nat_le, ℕ, List, length, map, filter, slice_index, Contains}
use Rattle.cyc_base.specs.declared.sig.Sig.{Sig}
use Rattle.netlist.specs.declared.parts.Gate.{Gate}
use Rattle.netlist.specs.declared.parts.Parts.{Parts}
use Rattle.netlist.specs.Walks.{Feeds, Walk}

-- the numbers of the signals from `first` on, less `first`
abbrev pub numbers_from : ℕ → List Sig → List ℕ
numbers_from first signals = map (λ s. s.0 - first) (filter (λ s. nat_le first s.0) signals)

-- the gates on a gate's pins, where the signal of gate 0 is `first`
abbrev pub gates_read : ℕ → Gate → List ℕ
gates_read first gate = numbers_from first gate.pins

-- the graph in which an edge leads from each gate to the gates that it reads
abbrev pub gate_graph : Parts → List (List ℕ)
gate_graph net = map (gates_read (length net.inputs + length net.latches)) net.gates

-- all gates, each once and after those that it reads
pub record IsGateOrder (net : Parts) (order : List ℕ) : Type 0 where
  pub size : length order ≡ length net.gates
  pub within : (i : ℕ) → i < length order → slice_index order i < length net.gates
  pub each : (n : ℕ) → n < length net.gates → Contains order n
  pub once : (i j : ℕ) → i < length order → j < length order → slice_index order i ≡ slice_index order j → i ≡ j
  pub after : (i j : ℕ) → i < length order → j < length order → Feeds net (slice_index order i) (slice_index order j) → i < j

-- a walk ends at the gate where it begins
pub record HasLoop (net : Parts) : Type 0 where
  pub gate : ℕ
  pub via : List ℕ
  pub walk : Walk net gate via gate
