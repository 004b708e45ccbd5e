-- How clauses see the values of the code.
use Rattle.std.specs.Prelude.{◌≡◌, Ok, Err}
use Rattle.std.specs.declared.alloc.AllocError.{AllocError}
use Rattle.std.specs.declared.result.Result.{Result}
use Rattle.cyc_base.specs.Values.{bits}
use Rattle.cyc_base.specs.declared.trit.Trit.TheVariants.{X}
use Rattle.netlist.specs.Fixpoint.{fix, wire as wire_of}
use Rattle.netlist.specs.declared.parts.Parts.{Parts}
use Rattle.refusals.specs.declared.refusal.Refusal.{Refusal}
use Rattle.refusals.specs.declared.refusal.Refusal.TheVariants.{Undetermined}
use Rattle.plain_commands.specs.Texts as texts
use Rattle.plain_commands.specs.declared.outcome.Outcome.{Outcome}
use Rattle.plain_commands.specs.declared.outcome.Stop.{Stop}
use Rattle.plain_commands.specs.declared.outcome.Stop.TheVariants.{At, Memory}

abbrev pub outcome_of : Outcome → texts.Outcome
outcome_of told = record { status = told.status; out = told.out.items; err = told.err.items }

-- the wire of a refusal is unknown at its vector
abbrev pub IsShown : Parts → Refusal → Type 0
IsShown net (Undetermined v wire) = wire_of (fix net (bits v)) wire ≡ X
IsShown net refused = Unit {0}

-- want of memory
abbrev pub no_memory : Stop
no_memory = Memory

abbrev pub stop_outcome : Stop → texts.Outcome
stop_outcome (At told) = outcome_of told
stop_outcome Memory = texts.no_memory

-- the outcome to which a call comes
abbrev pub end_of : Result Outcome Stop → texts.Outcome
end_of (Ok told) = outcome_of told
end_of (Err stop) = stop_outcome stop

-- how a call ends with what is told, or for want of memory
abbrev pub EndsAs : Result Outcome AllocError → texts.Outcome → Type 0
EndsAs (Ok told) end = end ≡ outcome_of told
EndsAs (Err lacks) end = end ≡ texts.no_memory
