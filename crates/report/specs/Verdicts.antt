-- The texts of verdicts. Each is one line.
use Rattle.std.specs.Prelude.{ℕ, Bool, List, [], ◌∷◌, ◌++◌, length, zip, drop, slice_index_or, codes, decimal, Some, None}
use Rattle.std.specs.declared.option.Option.{Option}
use Rattle.std.specs.List.{flat_map}
use Rattle.cyc_base.specs.declared.sig.Sig.{Sig}
use Rattle.cyc_io.specs.Bits.{bit_text}
use Rattle.netlist.specs.declared.parts.Parts.{Parts}
use Rattle.netlist.specs.Netlists.{signal_names, signal_name}
use Rattle.refusals.specs.declared.refusal.Refusal.{Refusal}
use Rattle.refusals.specs.declared.refusal.Refusal.TheVariants.{Initial, EmptyCare, Undetermined, Leaves}

-- ` NAME=B`
abbrev pub column_text : List ℕ × Bool → List ℕ
column_text column = codes " " ++ (column.0 ++ (codes "=" ++ bit_text column.1))

-- that of each of these values, which are those of the signals from `first` on
abbrev pub columns_text : Parts → ℕ → List Bool → List ℕ
columns_text net first values = flat_map column_text (zip (drop first (signal_names net)) values)

-- the line ends behind them
abbrev pub last_columns : Parts → ℕ → List Bool → List ℕ
last_columns net first values = columns_text net first values ++ codes "\n"

-- a vector, where there is a column
abbrev pub vector_text : Parts → List Bool → List ℕ
vector_text net [] = codes "\n"
vector_text net (b ∷ v) = codes " at" ++ last_columns net 0 (b ∷ v)

-- The columns of a vector are the first signals, and those of a state are the latches.
abbrev pub refusal_text : Parts → Refusal → List ℕ
refusal_text net (Initial q) = codes "refused initial" ++ last_columns net (length net.inputs) q
refusal_text net EmptyCare = codes "refused empty care\n"
refusal_text net (Undetermined v s) = (codes "refused undetermined wire=" ++ signal_name net s) ++ vector_text net v
refusal_text net (Leaves v q) =
    codes "refused leaves at" ++ (columns_text net 0 v ++ (codes " next" ++ last_columns net (length net.inputs) q))

-- the number of gates that are unknown on some care vector, where it is asked for, and the end of the line
abbrev pub open_text : Option ℕ → List ℕ
open_text None = codes "\n"
open_text (Some loose) = codes " open=" ++ (decimal loose ++ codes "\n")

-- the numbers of gates, of loops and of latches
abbrev pub accepted_text : Parts → ℕ → Option ℕ → List ℕ
accepted_text net loops loose =
    (codes "accepted gates=" ++ decimal (length net.gates))
    ++ ((codes " loops=" ++ decimal loops) ++ ((codes " latches=" ++ decimal (length net.latches)) ++ open_text loose))

-- the number of gates of a rewritten netlist, and the end of the line
abbrev pub rewritten_text : ℕ → List ℕ
rewritten_text gates = codes " accepted rewritten=" ++ (decimal gates ++ codes "\n")

-- a ring arbiter of so many cells that is accepted, with the numbers of its gates, of its loops, and of the gates of its
-- rewritten netlist
abbrev pub ring_line : ℕ → Parts → ℕ → ℕ → List ℕ
ring_line cells net loops rewritten =
    (codes "ring " ++ decimal cells)
    ++ ((codes " gates=" ++ decimal (length net.gates)) ++ ((codes " loops=" ++ decimal loops) ++ rewritten_text rewritten))
