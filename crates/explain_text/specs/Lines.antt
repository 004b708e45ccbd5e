-- The lines of an accepted netlist's loops: those of `loops`, and behind them the sweeps that a loop needs, and the columns
-- that it speaks of.
use Rattle.std.specs.Prelude.{ℕ, List, ◌++◌, codes, decimal}
use Rattle.std.specs.List.{flat_map}
use Rattle.netlist.specs.declared.parts.Parts.{Parts}
use Rattle.netlist.specs.Netlists.{signal, signal_name}
use Rattle.report.specs.LoopTexts.{loop_lines, each_loop}
use Rattle.explain_text.specs.Columns.{columns_read}

abbrev pub column_name : Parts → ℕ → List ℕ
column_name net column = codes " " ++ signal_name net (signal column)

abbrev pub sweeps_line : ℕ → ℕ → List ℕ
sweeps_line number sweeps = (codes "loop " ++ decimal number) ++ ((codes " sweeps " ++ decimal sweeps) ++ codes "\n")

abbrev pub columns_line : Parts → ℕ → List ℕ → List ℕ
columns_line net number columns = (codes "loop " ++ decimal number) ++ (codes " columns" ++ (flat_map (column_name net) columns ++ codes "\n"))

-- the lines of the loop that begins at this gate, where a loop of gate n needs `sweeps n` sweeps
abbrev pub told_lines : Parts → (ℕ → ℕ) → ℕ → ℕ → List ℕ
told_lines net sweeps number first =
    loop_lines net number first ++ (sweeps_line number (sweeps first) ++ columns_line net number (columns_read net first))

abbrev pub told_loops : Parts → (ℕ → ℕ) → List ℕ
told_loops net sweeps = each_loop (told_lines net sweeps) net
