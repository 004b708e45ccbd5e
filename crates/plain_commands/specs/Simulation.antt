-- What `sim` prints: the fixpoint of each vector, tick by tick.
use Rattle.std.specs.Prelude.{ℕ, ◌+◌, List, [], ◌∷◌, ◌++◌, map}
use Rattle.cyc_base.specs.declared.trit.Trit.{Trit}
use Rattle.cyc_base.specs.declared.trit.Trit.TheVariants as value
use Rattle.netlist.specs.declared.parts.Init.{Init}
use Rattle.netlist.specs.declared.parts.Init.TheVariants.{Zero, One, Either}
use Rattle.netlist.specs.declared.parts.Parts.{Parts}
use Rattle.netlist.specs.Fixpoint.{next, outs}
use Rattle.report.specs.Ticks.{tick_text}

-- a latch that may start with either value is unknown
abbrev pub start_value : Init → Trit
start_value Zero = value.Zero
start_value One = value.One
start_value Either = value.X

abbrev pub start_values : Parts → List Trit
start_values net = map (λ latch. start_value latch.init) net.latches

-- the lines of ticks with these inputs, the first of which has this number and begins with these values of the latches
abbrev pub tick_lines : Parts → ℕ → List Trit → List (List Trit) → List ℕ
tick_lines net tick latches [] = []
tick_lines net tick latches (inputs ∷ vectors) =
    tick_text tick (outs net (inputs ++ latches)) ++ tick_lines net (tick + 1) (next net (inputs ++ latches)) vectors

abbrev pub sim_text : Parts → List (List Trit) → List ℕ
sim_text net vectors = tick_lines net 1 (start_values net) vectors
