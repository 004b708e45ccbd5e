-- Settling gate by gate.
use Rattle.std.specs.Prelude.{◌≡◌, ◌≢◌, ℕ, List, length, replicate, Some, None}
use Rattle.std.specs.declared.option.Option.{Option}
use Rattle.cyc_base.specs.declared.trit.Trit.{Trit}
use Rattle.cyc_base.specs.declared.trit.Trit.TheVariants.{X}
use Rattle.netlist.specs.declared.parts.Parts.{Parts}
use Rattle.netlist.specs.Netlists.{gate_at, gate_sig}
use Rattle.netlist.specs.Fixpoint.{wire, gate_value}

abbrev pub all_unknown : Parts → List Trit
all_unknown net = replicate (length net.gates) X

-- a gate that is unknown has this value, and it is known
pub record Determines (net : Parts) (values : List Trit) (gate : ℕ) (value : Trit) : Type 0 where
  pub unknown : wire values (gate_sig net gate) ≡ X
  pub is : value ≡ gate_value values (gate_at net gate)
  pub known : value ≢ X

-- the value of a gate that is now determined; where there is none, an unknown gate has the value X
abbrev pub IsNewValue : Parts → List Trit → ℕ → Option Trit → Type 0
IsNewValue net values gate (Some value) = Determines net values gate value
IsNewValue net values gate None = wire values (gate_sig net gate) ≡ X → gate_value values (gate_at net gate) ≡ X
