-- Rows of wires with values, and signals that no loop takes part in.
use Rattle.std.specs.Prelude.{◌≡◌, ◌↔◌, ℕ, Bool, true, false, List, length, All, slice_index_or}
use Rattle.cyc_base.specs.Values.{bit, bits}
use Rattle.cyc_base.specs.declared.sig.Sig.{Sig}
use Rattle.netlist.specs.Fixpoint.{fix, wire}
use Rattle.netlist.specs.Netlists.{IsSignal, count, gate_sig}
use Rattle.netlist.specs.declared.parts.Parts.{Parts}
use Rattle.loops.specs.Walks.{AnyGate, IsUpstream, Leads}
use Rattle.care_rows.specs.declared.rows.Row.{Row}

-- a vector is in a row where each of its wires has its value in the fixpoint
abbrev pub IsIn : Parts → List Bool → Row → Type 0
IsIn net v row = All (λ e. wire (fix net (bits v)) e.wire ≡ bit e.value) row.values

abbrev pub IsInNone : Parts → List Bool → List Row → Type 0
IsInNone net v rows = All (λ row. ¬ IsIn net v row) rows

-- no loop takes part in a signal: neither the gate that drives it nor one upstream of that gate is on a loop
abbrev pub IsSteady : Parts → Sig → Type 0
IsSteady net s = (gate m : ℕ) → s ≡ gate_sig net gate → IsUpstream net m gate → ¬ Leads net AnyGate m m

-- a signal of the netlist that no loop takes part in
pub record IsSteadySignal (net : Parts) (s : Sig) : Type 0 where
  pub within : IsSignal net s
  pub steady : IsSteady net s

-- each wire of each row is one
abbrev pub AreSteadyRows : Parts → List Row → Type 0
AreSteadyRows net rows = All (λ row. All (λ e. IsSteadySignal net e.wire) row.values) rows

-- one mark for each signal, just where no loop takes part in it
pub record AreSteadyMarks (net : Parts) (marks : List Bool) : Type 0 where
  pub width : length marks ≡ count net
  pub each : (s : Sig) → IsSignal net s → (slice_index_or marks s.0 false ≡ true) ↔ IsSteady net s
