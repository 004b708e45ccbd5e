-- The dump of changes of a netlist. One unit of time stands for one moment.
use Rattle.std.specs.Prelude.{ℕ, ◌==◌, Bool, not, if◌then◌else◌, List, [], ◌∷◌, ◌++◌, filter, codes, decimal}
use Rattle.std.specs.List.{flat_map, range_with_len}
use Rattle.cyc_io.specs.Bits.{bit_text}
use Rattle.netlist.specs.declared.parts.Parts.{Parts}
use Rattle.netlist.specs.Netlists.{count, signal, signal_name}
use Rattle.delay_core.specs.declared.change.Change.{Change}
use Rattle.probes.specs.Codes.{code}

-- `$var wire 1 CODE NAME $end`
abbrev pub variable_line : Parts → ℕ → List ℕ
variable_line net n =
    codes "$var wire 1 " ++ (code n ++ (codes " " ++ (signal_name net (signal n) ++ codes " $end\n")))

-- the model, its signals by their numbers, and where the values at moment 0 begin
abbrev pub head_text : Parts → List ℕ
head_text net =
    codes "$timescale 1ns $end\n$scope module "
    ++ (net.name
    ++ (codes " $end\n"
    ++ (flat_map (variable_line net) (range_with_len 0 (count net)) ++ codes "$upscope $end\n$enddefinitions $end\n#0\n$dumpvars\n")))

-- a value and the code of its signal
abbrev pub value_line : Change → List ℕ
value_line change = bit_text change.value ++ (code change.sig.0 ++ codes "\n")

-- the time of a change, where it isn't this one
abbrev pub time_line : ℕ → Change → List ℕ
time_line time change = if change.at == time then [] else codes "#" ++ (decimal change.at ++ codes "\n")

-- changes one after another, from this time on
abbrev pub timed_lines : ℕ → List Change → List ℕ
timed_lines time [] = []
timed_lines time (change ∷ later) = time_line time change ++ (value_line change ++ timed_lines change.at later)

abbrev pub is_first : Change → Bool
is_first change = change.at == 0

abbrev pub first_changes : List Change → List Change
first_changes changes = filter is_first changes

abbrev pub later_changes : List Change → List Change
later_changes changes = filter (λ change. not (is_first change)) changes

-- the values at moment 0, and all later ones with their times
abbrev pub vcd_text : List Change → Parts → List ℕ
vcd_text changes net =
    head_text net ++ (flat_map value_line (first_changes changes) ++ (codes "$end\n" ++ timed_lines 0 (later_changes changes)))
