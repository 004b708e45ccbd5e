-- A sweep of a loop that sets only the gates that read something new.
use Rattle.std.specs.Prelude.{◌≡◌, ◌≢◌, ◌⊎◌, ℕ, true, List, [], length, map, Contains, Some, None}
use Rattle.std.specs.declared.option.Option.{Option}
use Rattle.cyc_base.specs.declared.trit.Trit.{Trit}
use Rattle.cyc_base.specs.declared.trit.Trit.TheVariants.{X}
use Rattle.cyc_base.specs.Values.{Below}
use Rattle.cover_logic.specs.Extensions.{ext}
use Rattle.netlist.specs.Netlists.{gate_at}
use Rattle.loops.specs.Cuts.{is_cut}
use Rattle.loops.specs.Sweeps.{value_in}
use Rattle.loop_simulation.specs.LoopsAt.{LoopAt, gates_in}
use Rattle.loop_simulation.specs.Simulations.{seen_of}

-- the value of a gate's cover on what the gate sees
abbrev pub cover_value : LoopAt → (outside before after : List Trit) → ℕ → Trit
cover_value l outside before after n =
    ext (gate_at l.net n).cover (map (seen_of l outside before after) (gate_at l.net n).pins)

-- a gate that is unknown has this value, and it is known
pub record IsDetermined (l : LoopAt) (outside before after : List Trit) (gate : ℕ) (value : Trit) : Type 0 where
  pub unknown : value_in after gate ≡ X
  pub is : value ≡ cover_value l outside before after gate
  pub known : value ≢ X

-- the value of a gate that is now determined; where there is none, an unknown gate has the value X
abbrev pub IsNewValue : LoopAt → (outside before after : List Trit) → ℕ → Option Trit → Type 0
IsNewValue l outside before after gate (Some value) = IsDetermined l outside before after gate value
IsNewValue l outside before after gate None = value_in after gate ≡ X → cover_value l outside before after gate ≡ X

-- Where a sweep stands: no gate of the loop is known to be other than its cover's value on what it sees, and each that
-- doesn't wait has that value.
pub record IsSweeping (l : LoopAt) (outside before after : List Trit) (waiting : List ℕ) : Type 0 where
  pub width_before : length before ≡ length l.net.gates
  pub width_after : length after ≡ length l.net.gates
  pub inside : (n : ℕ) → Contains waiting n → Contains (gates_in l) n
  pub below : (n : ℕ) → Contains (gates_in l) n → Below (value_in after n) (cover_value l outside before after n)
  pub still : (n : ℕ) → Contains (gates_in l) n → Contains waiting n ⊎ (value_in after n ≡ cover_value l outside before after n)

-- These are the cut wires of the loop that gates don't see as they are, but as they were before the sweep, which was X.
pub record AreUnseen (l : LoopAt) (before after : List Trit) (wires : List ℕ) : Type 0 where
  pub inside : (n : ℕ) → Contains wires n → Contains (gates_in l) n
  pub are : (n : ℕ) → Contains wires n → is_cut l.cut.wires n ≡ true
  pub below : (n : ℕ) → Contains (gates_in l) n → is_cut l.cut.wires n ≡ true → Below (value_in before n) (value_in after n)
  pub each : (n : ℕ) → Contains (gates_in l) n → is_cut l.cut.wires n ≡ true → (value_in before n ≡ value_in after n) ⊎ Contains wires n

-- a sweep is done, in which these cut wires have changed
pub record IsSwept (l : LoopAt) (outside before after : List Trit) (changed : List ℕ) : Type 0 where
  pub sweeping : IsSweeping l outside before after []
  pub unseen : AreUnseen l before after changed
  pub differs : (n : ℕ) → Contains changed n → value_in before n ≢ value_in after n

-- a sweep begins, in which these gates wait
pub record IsReady (l : LoopAt) (outside before after : List Trit) (waiting : List ℕ) : Type 0 where
  pub sweeping : IsSweeping l outside before after waiting
  pub unseen : AreUnseen l before after []
