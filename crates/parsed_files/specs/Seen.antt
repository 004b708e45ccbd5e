-- How clauses see faults and errors.
use Rattle.std.specs.Prelude.{ℕ, List, Some, None}
use Rattle.std.specs.declared.option.Option.{Option}
use Rattle.report.specs.Texts.{no_tail, name_tail, number_tail}
use Rattle.parsed_files.specs.Faults as found
use Rattle.parsed_files.specs.declared.fault.Fault.{Fault}
use Rattle.parsed_files.specs.declared.fault.FileError.{FileError}
use Rattle.parsed_files.specs.declared.fault.FileError.TheVariants.{Has, Memory}
use Rattle.parsed_files.specs.declared.fault.FaultTail.{FaultTail}
use Rattle.parsed_files.specs.declared.fault.FaultTail.TheVariants as tails

-- what stands behind the words
abbrev pub tail_seen : FaultTail → List ℕ
tail_seen tails.Nothing = no_tail
tail_seen (tails.Name name) = name_tail name
tail_seen (tails.Number n) = number_tail n

abbrev pub fault_seen : Fault → found.Fault
fault_seen fault = record { code = fault.code; line = fault.line; tail = tail_seen fault.tail }

-- the fault of an error, unless it is want of memory
abbrev pub error_seen : FileError → Option found.Fault
error_seen (Has fault) = Some (fault_seen fault)
error_seen Memory = None
