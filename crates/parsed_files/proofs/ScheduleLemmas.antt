-- Vector files and schedule files.
use Rattle.std.proofs.Common.{◌≡◌, ◌≢◌, ◌⊎◌, inl, inr, ℕ, ◌<◌, ◌≤◌, List, length, Some, None, Err, Bool, true, false, sym, ap, subst, arith}
use Rattle.std.specs.Prelude.{nat_le, if◌then◌else◌}
use Rattle.std.specs.declared.option.Option.{Option}
use Rattle.std.specs.declared.result.Result.{Result}
use Rattle.cyc_base.specs.declared.limits.TheConstants.{MAX_FILE_BYTES}
use Rattle.netlist.specs.declared.parts.Parts.{Parts}
use Rattle.sched_text.specs.Schedules.{schedule_read}
use Rattle.sched_text.specs.Vectors.{vectors_read}
use Rattle.sched_text.specs.declared.fault.SchedFault.{SchedFault}
use Rattle.sched_text.specs.declared.fault.SchedFault.TheVariants as sched
use Rattle.parsed_files.specs.Faults.{Fault, IsErrorOf, too_long}
use Rattle.parsed_files.specs.ScheduleFiles.{of_sched, sched_fault, schedule_of, vectors_of}

pub vectors_of_short : (net : Parts) (unknowns : Bool) (bytes : List ℕ) → length bytes ≤ MAX_FILE_BYTES
    → vectors_of net unknowns bytes ≡ of_sched net (vectors_read bytes (length net.inputs) unknowns)
vectors_of_short net unknowns bytes short = grind arith

pub vectors_of_long : (net : Parts) (unknowns : Bool) (bytes : List ℕ) → MAX_FILE_BYTES < length bytes → vectors_of net unknowns bytes ≡ Err (Some too_long)
vectors_of_long net unknowns bytes long = grind arith

pub schedule_of_short : (net : Parts) (ticks : ℕ) (bytes : List ℕ) → length bytes ≤ MAX_FILE_BYTES
    → schedule_of net ticks bytes ≡ of_sched net (schedule_read bytes net ticks)
schedule_of_short net ticks bytes short = grind arith

pub schedule_of_long : (net : Parts) (ticks : ℕ) (bytes : List ℕ) → MAX_FILE_BYTES < length bytes → schedule_of net ticks bytes ≡ Err (Some too_long)
schedule_of_long net ticks bytes long = grind arith

-- an error of vectors is the fault of their file, unless it is want of memory
pub sched_says : {T : Type 0} (net : Parts) (meaning : Result T (Option Fault)) (fault : SchedFault) (error : Option Fault)
    → (error ≡ None) ⊎ (error ≡ sched_fault net fault) → (fault ≢ sched.Memory → meaning ≡ Err (sched_fault net fault)) → IsErrorOf meaning error
sched_says {T} net meaning fault error is there = grind arith
