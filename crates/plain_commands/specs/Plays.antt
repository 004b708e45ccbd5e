-- What `delays` prints: how each tick of a recorded schedule ends.
use Rattle.std.specs.Prelude.{◌≡◌, ℕ, ◌+◌, Bool, List, [], ◌∷◌, ◌++◌, length, map, All, Ok, Err}
use Rattle.std.specs.Option.{option_map_or}
use Rattle.std.specs.declared.option.Option.{Option}
use Rattle.std.specs.declared.result.Result.{Result}
use Rattle.cyc_base.specs.declared.trit.Trit.{Trit}
use Rattle.netlist.specs.declared.parts.Parts.{Parts}
use Rattle.care_sets.specs.Care.{is_one}
use Rattle.schedules.specs.Runs.{ticks_of}
use Rattle.delay_core.specs.declared.plan.Schedule.{Schedule}
use Rattle.delay_core.specs.declared.plan.TickEnd.{TickEnd}
use Rattle.delay_core.specs.Plans.{schedule_fault, run_of, end_of}
use Rattle.parsed_files.specs.Faults.{Fault}
use Rattle.parsed_files.specs.ScheduleFiles.{play_fault}
use Rattle.report.specs.Ticks.{played_text}

-- vectors without unknown values
abbrev pub known : List (List Trit) → List (List Bool)
known vectors = map (map is_one) vectors

-- each of these vectors has a value for each input
abbrev pub AreInputs : Parts → List (List Bool) → Type 0
AreInputs net vectors = All (λ inputs. length inputs ≡ length net.inputs) vectors

-- how the ticks of a schedule end on these vectors
abbrev pub tick_ends : Parts → List (List Bool) → Schedule → List TickEnd
tick_ends net vectors schedule = map (end_of net) (ticks_of net (run_of schedule vectors))

-- the same, or the first fault in the order of play
abbrev pub played : Parts → List (List Bool) → Schedule → Result (List TickEnd) (Option Fault)
played net vectors schedule =
    option_map_or (λ fault. Err (play_fault net fault)) (schedule_fault net schedule vectors) (Ok (tick_ends net vectors schedule))

-- the lines of ticks, of which the first has this number
abbrev pub end_lines : ℕ → List TickEnd → List ℕ
end_lines tick [] = []
end_lines tick (end ∷ ends) = played_text tick end.rounds end.settled end.outputs ++ end_lines (tick + 1) ends

abbrev pub delays_text : List TickEnd → List ℕ
delays_text ends = end_lines 1 ends
