-- Sweeps of loops from their cut wires.
use Rattle.std.specs.Prelude.{◌≡◌, ◌<◌, ◌≤◌, ◌+◌, ◌-◌, ◌&&◌, ℕ, zero, suc, nat_le, Bool, true, if◌then◌else◌, List, length, map, filter, replicate, slice_index_or}
use Rattle.std.specs.List.{range_with_len}
use Rattle.cyc_base.specs.declared.sig.Sig.{Sig}
use Rattle.cyc_base.specs.declared.trit.Trit.{Trit}
use Rattle.cyc_base.specs.declared.trit.Trit.TheVariants.{X}
use Rattle.cover_logic.specs.Extensions.{ext}
use Rattle.netlist.specs.declared.parts.Parts.{Parts}
use Rattle.netlist.specs.Fixpoint.{wire, fix, fix_gates}
use Rattle.netlist.specs.Netlists.{gate_at}
use Rattle.loops.specs.Cuts.{Loops}

-- the number of the first gate's signal: those before it are inputs and latches
abbrev pub first_gate : Parts → ℕ
first_gate net = length net.inputs + length net.latches

-- the gate that drives a signal
abbrev pub gate_of : Parts → Sig → ℕ
gate_of net s = s.0 - first_gate net

-- whether the signal is a gate of gate n's loop
abbrev pub in_loop_of : Parts → Loops → ℕ → Sig → Bool
in_loop_of net loops n s = nat_le (first_gate net) s.0 && loops.same n (gate_of net s)

-- the value of a gate in a state
abbrev pub value_in : List Trit → ℕ → Trit
value_in state n = slice_index_or state n X

-- What gate n sees of a signal: a cut wire of its loop is read from c, another gate of its loop from s,
-- and what is outside from the fixpoint. Both c and s give a value for each gate of the netlist,
-- and so for each loop at once; a loop reads its own gates alone.
abbrev pub pin_in : Parts → Loops → List Trit → List Trit → List Trit → ℕ → Sig → Trit
pin_in net loops v c s n pin =
    if in_loop_of net loops n pin
    then (if loops.cut (gate_of net pin) then value_in c (gate_of net pin) else value_in s (gate_of net pin))
    else wire (fix net v) pin

-- the value of gate n where it sees this
abbrev pub gate_in : Parts → Loops → List Trit → List Trit → List Trit → ℕ → Trit
gate_in net loops v c s n = ext (gate_at net n).cover (map (pin_in net loops v c s n) (gate_at net n).pins)

-- s is an assignment in which each gate has the value of its cover on what it sees
pub record IsSweep (net : Parts) (loops : Loops) (v c s : List Trit) : Type 0 where
  pub gates : length s ≡ length net.gates
  pub each : (n : ℕ) → n < length net.gates → value_in s n ≡ gate_in net loops v c s n

-- that one assignment, found by simultaneous steps from all X
abbrev pub sweep_step : Parts → Loops → List Trit → List Trit → List Trit → List Trit
sweep_step net loops v c s = map (gate_in net loops v c s) (range_with_len 0 (length net.gates))

abbrev pub sweep_steps : Parts → Loops → List Trit → List Trit → ℕ → List Trit
sweep_steps net loops v c zero = replicate (length net.gates) X
sweep_steps net loops v c (suc k) = sweep_step net loops v c (sweep_steps net loops v c k)

abbrev pub sweep : Parts → Loops → List Trit → List Trit → List Trit
sweep net loops v c = sweep_steps net loops v c (length net.gates)

-- all gates after k sweeps: the cut wires are X before the first
abbrev pub sweeps : Parts → Loops → List Trit → ℕ → List Trit
sweeps net loops v zero = replicate (length net.gates) X
sweeps net loops v (suc k) = sweep net loops v (sweeps net loops v k)

-- the cut wires of gate a's loop, in flat order, and their values in a state of all gates
abbrev pub cuts_of : Parts → Loops → ℕ → List ℕ
cuts_of net loops a = filter (λ n. loops.same a n && loops.cut n) (range_with_len 0 (length net.gates))

abbrev pub cut_values : Parts → Loops → ℕ → List Trit → List Trit
cut_values net loops a s = map (value_in s) (cuts_of net loops a)

-- the cut wires of gate a's loop after k sweeps
abbrev pub cuts : Parts → Loops → List Trit → ℕ → ℕ → List Trit
cuts net loops v a k = cut_values net loops a (sweeps net loops v k)

-- after k sweeps the cut wires of gate a's loop stand at the fixpoint
abbrev pub CutsAreFixed : Parts → Loops → List Trit → ℕ → ℕ → Type 0
CutsAreFixed net loops v a k = cuts net loops v a k ≡ cut_values net loops a (fix_gates net v)

-- m of gate a's loop: the least number of sweeps after which they do so on all care vectors
pub record IsCountOfSweeps (net : Parts) (loops : Loops) (care : List Trit → Bool) (a m : ℕ) : Type 0 where
  pub enough : (v : List Trit) → care v ≡ true → CutsAreFixed net loops v a m
  pub least : (k : ℕ) → ((v : List Trit) → care v ≡ true → CutsAreFixed net loops v a k) → m ≤ k
