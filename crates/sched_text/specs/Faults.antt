-- The first fault of lines, and the faults of a text's bytes.
use Rattle.std.specs.Prelude.{ℕ, List, Some, None, Ok, Err}
use Rattle.std.specs.declared.option.Option.{Option}
use Rattle.std.specs.declared.result.Result.{Result}
use Rattle.blif_text.specs.Texts.{Line}
use Rattle.blif_text.specs.declared.fault.TextFault.{TextFault}
use Rattle.blif_text.specs.declared.fault.TextFault.TheVariants.{BadByte, Memory as NoMemory}
use Rattle.sched_text.specs.declared.fault.SchedFault.{SchedFault}
use Rattle.sched_text.specs.declared.fault.SchedFault.TheVariants.{BadLine, Memory}

-- a bad byte is a bad line
abbrev pub of_text : TextFault → SchedFault
of_text (BadByte line) = BadLine line
of_text NoMemory = Memory

-- what was meant, where there is no fault
abbrev pub unless : {X : Type 0} → Option SchedFault → X → Result X SchedFault
unless (Some fault) meant = Err fault
unless None meant = Ok meant

-- what the lines give, or the first bad byte of the text
abbrev pub of_lines : {X : Type 0} → (List Line → Result X SchedFault) → Result (List Line) ℕ → Result X SchedFault
of_lines read (Err line) = Err (BadLine line)
of_lines read (Ok found) = read found
