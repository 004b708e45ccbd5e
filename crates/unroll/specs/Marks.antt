-- The names of what an unrolled netlist has beside the netlist's own gates. Each has the mark, a run of `~` that stands
-- in no name of the netlist.
use Rattle.std.specs.Prelude.{◌++◌, ℕ, suc, List, [], ◌∷◌, codes}
use Rattle.std.specs.Option.{option_map_or}
use Rattle.std.specs.Fmt.{decimal}
use Rattle.cyc_base.specs.Tildes.{longest_run_of, tildes}
use Rattle.netlist.specs.declared.parts.Parts.{Parts}
use Rattle.netlist.specs.Netlists.{signal_names}

-- the clock's name, if there is a clock
abbrev pub clock_names : Parts → List (List ℕ)
clock_names net = option_map_or (λ clock. clock.name ∷ []) net.clock []

-- the longest run of `~` in a signal's or the clock's name
abbrev pub longest_run_in : Parts → ℕ
longest_run_in net = longest_run_of (signal_names net ++ clock_names net)

-- a run that is longer by one
abbrev pub mark : Parts → List ℕ
mark net = tildes (suc (longest_run_in net))

-- the constant 0 is named `z` and the mark
abbrev pub zero_name : List ℕ → List ℕ
zero_name mark = codes "z" ++ mark

-- copy number k of a gate is named `c`, k in decimal, the mark and the gate's name
abbrev pub copy_name : List ℕ → ℕ → List ℕ → List ℕ
copy_name mark k name = codes "c" ++ (decimal k ++ (mark ++ name))
