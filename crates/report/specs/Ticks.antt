-- The lines of ticks, which are numbered from 1.
use Rattle.std.specs.Prelude.{ℕ, Bool, true, false, List, ◌++◌, codes, decimal}
use Rattle.std.specs.List.{flat_map}
use Rattle.cyc_base.specs.declared.trit.Trit.{Trit}
use Rattle.cyc_base.specs.declared.trit.Trit.TheVariants.{Zero, One, X}
use Rattle.cyc_io.specs.Bits.{bits_text}

abbrev pub trit_text : Trit → List ℕ
trit_text Zero = codes "0"
trit_text One = codes "1"
trit_text X = codes "x"

-- a tick of a ternary simulation, with the values of its outputs
abbrev pub tick_text : ℕ → List Trit → List ℕ
tick_text tick outputs = (codes "tick " ++ decimal tick) ++ (codes " outputs=" ++ (flat_map trit_text outputs ++ codes "\n"))

abbrev pub settled_text : Bool → List ℕ
settled_text false = codes " settled=no outputs="
settled_text true = codes " settled=yes outputs="

-- a tick that was played: how many rounds it had, whether it settled, and its outputs as it ends
abbrev pub played_text : ℕ → ℕ → Bool → List Bool → List ℕ
played_text tick rounds settled outputs =
    (codes "tick " ++ decimal tick)
    ++ ((codes " rounds=" ++ decimal rounds) ++ (settled_text settled ++ (bits_text outputs ++ codes "\n")))
