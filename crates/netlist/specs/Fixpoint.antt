-- The ternary fixpoint of a netlist (Malik 1994): a vector v gives the values of its inputs and then of its latches,
-- and a state s gives the values of its gates.
use Rattle.std.specs.Prelude.{◌≡◌, ◌++◌, ℕ, zero, suc, Bool, true, false, List, length, map, replicate, slice_index_or}
use Rattle.std.specs.List.{AllZip}
use Rattle.cyc_base.specs.declared.sig.Sig.{Sig}
use Rattle.cyc_base.specs.declared.trit.Trit.{Trit}
use Rattle.cyc_base.specs.declared.trit.Trit.TheVariants.{X}
use Rattle.cover_logic.specs.Extensions.{ext}
use Rattle.netlist.specs.declared.parts.Gate.{Gate}
use Rattle.netlist.specs.declared.parts.Init.{Init}
use Rattle.netlist.specs.declared.parts.Init.TheVariants.{Zero, One, Either}
use Rattle.netlist.specs.declared.parts.Parts.{Parts}

-- the value of each signal by its number
abbrev pub wires : {T : Type 0} → List T → List T → List T
wires v s = v ++ s

-- the value of one signal: X where there is none
abbrev pub wire : List Trit → Sig → Trit
wire values s = slice_index_or values s.0 X

-- the value of a gate where the signals have these values
abbrev pub gate_value : List Trit → Gate → Trit
gate_value values gate = ext gate.cover (map (wire values) gate.pins)

-- one simultaneous step, Malik's J: all gates at once take the value of their covers
abbrev pub step : Parts → List Trit → List Trit → List Trit
step net v s = map (gate_value (wires v s)) net.gates

-- k steps from all gates unknown
abbrev pub steps : Parts → List Trit → ℕ → List Trit
steps net v zero = replicate (length net.gates) X
steps net v (suc k) = step net v (steps net v k)

-- the gates at the fixpoint: as many steps as there are gates
abbrev pub fix_gates : Parts → List Trit → List Trit
fix_gates net v = steps net v (length net.gates)

-- all signals at the fixpoint
abbrev pub fix : Parts → List Trit → List Trit
fix net v = wires v (fix_gates net v)

-- what the latches load, and what the outputs show, where the signals have these values
abbrev pub loaded : Parts → List Trit → List Trit
loaded net values = map (λ latch. wire values latch.from) net.latches

abbrev pub shown : Parts → List Trit → List Trit
shown net values = map (wire values) net.outputs

-- the latches' next values, and the outputs
abbrev pub next : Parts → List Trit → List Trit
next net v = loaded net (fix net v)

abbrev pub outs : Parts → List Trit → List Trit
outs net v = shown net (fix net v)

-- a value with which a latch may start
abbrev pub Permits : Init → Bool → Type 0
Permits Zero b = b ≡ false
Permits One b = b ≡ true
Permits Either b = Unit {0}

-- values with which the latches may start
abbrev pub IsInitialState : Parts → List Bool → Type 0
IsInitialState net = AllZip (λ latch. Permits latch.init) net.latches
