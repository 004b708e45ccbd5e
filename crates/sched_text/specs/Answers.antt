-- What an answer of a reader says.
use Rattle.std.specs.Prelude.{◌≡◌, ◌≢◌, Some, None, Ok, Err, MatchResult}
use Rattle.std.specs.declared.option.Option.{Option}
use Rattle.std.specs.declared.result.Result.{Result}
use Rattle.sched_text.specs.declared.fault.SchedFault.{SchedFault}
use Rattle.sched_text.specs.declared.fault.SchedFault.TheVariants.{Memory}

-- there is no fault, and the value is the one that was meant
pub record IsRead {X : Type 0} (fault : Option SchedFault) (meant found : X) : Type 0 where
  pub no_fault : fault ≡ None
  pub is : found ≡ meant

-- the fault is the one that is there, or memory ran out
abbrev pub IsFault : Option SchedFault → SchedFault → Type 0
IsFault fault found = found ≢ Memory → fault ≡ Some found

abbrev pub Reads : {X : Type 0} → Result X SchedFault → Option SchedFault → X → Type 0
Reads result fault meant = MatchResult result (IsRead fault meant) (IsFault fault)

-- an answer is the wanted one, or memory ran out
abbrev pub Answers : {X : Type 0} → Result X SchedFault → Result X SchedFault → Type 0
Answers result wanted = MatchResult result (λ x. wanted ≡ Ok x) (λ found. found ≢ Memory → wanted ≡ Err found)
