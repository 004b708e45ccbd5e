-- What the parts of a plan and of a storm are made of.
use Rattle.std.specs.Prelude.{◌≡◌, ◌<◌, ◌≤◌, ◌+◌, ℕ, Bool, List, length}
use Rattle.cyc_base.specs.declared.trit.Trit.{Trit}
use Rattle.netlist.specs.declared.parts.Parts.{Parts}
use Rattle.netlist.specs.Netlists.{count, gate_at, gate_sig}
use Rattle.netlist.specs.Fixpoint.{wire, gate_value}
use Rattle.storm.specs.declared.planning.StormPlan.{StormPlan}
use Rattle.storm.specs.Storms.{Turn, shaking_count, most_events}

-- each gate has the value of its cover
pub record AreFixed (net : Parts) (values : List Trit) : Type 0 where
  pub width : length values ≡ count net
  pub gates : (n : ℕ) → n < length net.gates → wire values (gate_sig net n) ≡ gate_value values (gate_at net n)

-- a plan has an entry for each gate, and a round has few enough events
pub record FitsRound (net : Parts) (plan : StormPlan) : Type 0 where
  pub shaking : length plan.shaking ≡ length net.gates
  pub rest : length plan.rest ≡ length net.gates
  pub low : length plan.low ≡ length net.gates
  pub high : length plan.high ≡ length net.gates
  pub few : length net.gates + shaking_count plan ≤ most_events

abbrev pub turn_of : ℕ → List Bool → Turn
turn_of gate values = record { gate = gate; values = values }
