-- The outcomes of a call: a status, and the texts for out and err.
use Rattle.std.specs.Prelude.{ℕ, List, [], length}
use Rattle.aig_core.specs.declared.building.Built.{Built}
use Rattle.aig_core.specs.Text.{aiger_text, binary_text}
use Rattle.commands.specs.declared.encoding.Encoding.{Encoding}
use Rattle.commands.specs.declared.encoding.Encoding.TheVariants.{Ascii, Binary}
use Rattle.loops.specs.Listed.{first_gates}
use Rattle.netlist.specs.declared.parts.Parts.{Parts}
use Rattle.parsed_files.specs.Faults.{Fault}
use Rattle.report.specs.Messages.{usage_text, read_failed_text, limit_text, no_memory_text, too_large_text, too_many_rows_text}
use Rattle.report.specs.Texts.{fault_text}
use Rattle.plain_commands.specs.Plans.{Ending, Prints, PrintsBeside, Refuses, Declines, Outgrows, WantsRows}

-- a status, and the texts for out and err
pub record Outcome : Type 0 where
  pub status : ℕ
  pub out : List ℕ
  pub err : List ℕ

-- a status with a text on out
abbrev pub on_out : ℕ → List ℕ → Outcome
on_out status text = record { status = status; out = text; err = [] }

-- a status with a text on err
abbrev pub on_err : ℕ → List ℕ → Outcome
on_err status text = record { status = status; out = []; err = text }

-- a status with a text on each
abbrev pub on_both : ℕ → List ℕ → List ℕ → Outcome
on_both status out err = record { status = status; out = out; err = err }

-- words outside the grammar
abbrev pub usage : Outcome
usage = on_err 2 usage_text

-- a file that has a fault
abbrev pub has_fault : List ℕ → Fault → Outcome
has_fault name fault = on_err 3 (fault_text name fault.code fault.line fault.tail)

-- a file that wasn't read
abbrev pub read_failed : List ℕ → Outcome
read_failed name = on_err 4 (read_failed_text name)

-- a decision that met its limit of nodes
abbrev pub limit_reached : ℕ → Outcome
limit_reached limit = on_err 6 (limit_text limit)

abbrev pub no_memory : Outcome
no_memory = on_err 7 no_memory_text

-- the outcome of an ending
abbrev pub told : Ending → Outcome
told (Prints text) = on_out 0 text
told (PrintsBeside text lines) = on_both 0 text lines
told (Refuses text) = on_out 1 text
told (Declines text) = on_err 1 text
told (Outgrows size) = on_err 8 (too_large_text size)
told (WantsRows most) = on_err 8 (too_many_rows_text most)

abbrev pub count_of_loops : Parts → ℕ
count_of_loops net = length (first_gates net)

-- the text of a netlist's graph, in a form of AIGER
abbrev pub graph_text : Encoding → Parts → Built → List ℕ
graph_text Ascii = aiger_text
graph_text Binary = binary_text
