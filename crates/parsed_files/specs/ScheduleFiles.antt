-- The vectors of a vector file for a netlist, the schedule of a schedule file, and the faults of both, those of the play
-- among them.
use Rattle.std.specs.Prelude.{ℕ, Bool, List, [], length, nat_le, if◌then◌else◌, slice_get, Some, None, Ok, Err}
use Rattle.std.specs.declared.option.Option.{Option}
use Rattle.std.specs.declared.result.Result.{Result}
use Rattle.std.specs.Option.{option_map_or}
use Rattle.cyc_base.specs.declared.limits.TheConstants.{MAX_FILE_BYTES}
use Rattle.cyc_base.specs.declared.trit.Trit.{Trit}
use Rattle.netlist.specs.Netlists.{gate_at}
use Rattle.netlist.specs.declared.parts.Latch.{Latch}
use Rattle.netlist.specs.declared.parts.Parts.{Parts}
use Rattle.sched_text.specs.Schedules.{schedule_read}
use Rattle.sched_text.specs.Vectors.{vectors_read}
use Rattle.sched_text.specs.declared.fault.SchedFault.{SchedFault}
use Rattle.sched_text.specs.declared.fault.SchedFault.TheVariants.{BadLine, WrongWidth, BadStart, UnknownGate, TickCount, Memory}
use Rattle.delay_core.specs.declared.fault.EventFault.{EventFault}
use Rattle.delay_core.specs.declared.fault.EventFault.TheVariants as event
use Rattle.delay_core.specs.declared.fault.PlayFault.{PlayFault}
use Rattle.delay_core.specs.declared.fault.PlayFault.TheVariants as play
use Rattle.delay_core.specs.declared.plan.Schedule.{Schedule}
use Rattle.report.specs.declared.fault_code.FaultCode.TheVariants as code
use Rattle.parsed_files.specs.Faults.{Fault, at_line, of_name_at, of_number_at, too_long}

-- the name of a latch by its place among the latches
abbrev pub latch_name : Parts → ℕ → List ℕ
latch_name net number = option_map_or (λ (latch : Latch). latch.name) (slice_get net.latches number) []

-- the faults of vectors and of schedules; want of memory is none
abbrev pub sched_fault : Parts → SchedFault → Option Fault
sched_fault net (BadLine line) = Some (at_line code.BadLine line)
sched_fault net (WrongWidth line) = Some (at_line code.WrongWidth line)
sched_fault net (UnknownGate line name) = Some (of_name_at code.UnknownGate line name)
sched_fault net (BadStart line latch) = Some (of_name_at code.StartValueNotPermitted line (latch_name net latch))
sched_fault net (TickCount line) = Some (at_line code.WrongNumberOfTicks line)
sched_fault net Memory = None

abbrev pub of_sched : {T : Type 0} → Parts → Result T SchedFault → Result T (Option Fault)
of_sched net (Ok meant) = Ok meant
of_sched net (Err fault) = Err (sched_fault net fault)

-- the vectors of a file's bytes; unknown values are allowed or not
abbrev pub vectors_of : Parts → Bool → List ℕ → Result (List (List Trit)) (Option Fault)
vectors_of net unknowns bytes =
    if nat_le (length bytes) MAX_FILE_BYTES then of_sched net (vectors_read bytes (length net.inputs) unknowns) else Err (Some too_long)

-- the schedule of a file's bytes, for so many ticks
abbrev pub schedule_of : Parts → ℕ → List ℕ → Result Schedule (Option Fault)
schedule_of net ticks bytes =
    if nat_le (length bytes) MAX_FILE_BYTES then of_sched net (schedule_read bytes net ticks) else Err (Some too_long)

-- Why an event of this line is refused. Each event of a file has a gate, since the file names it.
abbrev pub event_fault : ℕ → EventFault → Option Fault
event_fault line event.NoGate = Some (at_line code.UnknownGate line)
event_fault line event.AgeCount = Some (at_line code.WrongNumberOfAges line)
event_fault line (event.TooOld pin) = Some (of_number_at code.AgeTooOld line pin)
event_fault line event.Memory = None

-- the faults of a play; want of memory is none
abbrev pub play_fault : Parts → PlayFault → Option Fault
play_fault net (play.Event line fault) = event_fault line fault
play_fault net (play.Unfair line gate) = Some (of_name_at code.GateWithoutEvent line (gate_at net gate).name)
play_fault net play.Memory = None
