-- The parts of a schedule's text, as they are appended one after another, and the numbers that they have.
use Rattle.std.specs.Prelude.{◌≤◌, ℕ, Bool, List, [], ◌∷◌, ◌++◌, codes, decimal, All}
use Rattle.std.specs.List.{flat_map}
use Rattle.netlist.specs.declared.parts.Parts.{Parts}
use Rattle.delay_core.specs.declared.plan.PlannedEvent.{PlannedEvent}
use Rattle.delay_core.specs.declared.plan.RoundPlan.{RoundPlan}
use Rattle.delay_core.specs.declared.plan.Schedule.{Schedule}
use Rattle.sched_text.specs.Written.{after_blank, line_text, bits_words, past_line, start_word, event_line}

abbrev pub ages_text : List ℕ → List ℕ
ages_text ages = flat_map (λ age. after_blank (decimal age)) ages

abbrev pub past_text : List (List Bool) → List ℕ
past_text past = flat_map (λ moment. line_text (past_line moment)) past

abbrev pub event_text : Parts → PlannedEvent → List ℕ
event_text net planned = line_text (event_line net planned)

abbrev pub events_text : Parts → List PlannedEvent → List ℕ
events_text net events = flat_map (event_text net) events

abbrev pub round_text : Parts → RoundPlan → List ℕ
round_text net round = codes "round\n" ++ events_text net round.events

abbrev pub rounds_text : Parts → List RoundPlan → List ℕ
rounds_text net rounds = flat_map (round_text net) rounds

abbrev pub tick_text : Parts → List RoundPlan → List ℕ
tick_text net rounds = codes "tick\n" ++ rounds_text net rounds

abbrev pub ticks_text : Parts → List (List RoundPlan) → List ℕ
ticks_text net ticks = flat_map (tick_text net) ticks

abbrev pub head_text : Schedule → List ℕ
head_text schedule =
    codes "schedule 2\n"
    ++ (line_text (codes "window" ∷ decimal schedule.window ∷ [])
    ++ (past_text schedule.past
    ++ (line_text (start_word schedule.free ∷ bits_words schedule.latches) ++ line_text (codes "gates" ∷ bits_words schedule.gates))))

-- Numbers of 32 bits.

abbrev pub IsSmall : ℕ → Type 0
IsSmall n = n ≤ 4294967295

abbrev pub HasSmallAges : PlannedEvent → Type 0
HasSmallAges planned = All IsSmall planned.event.ages

abbrev pub AreSmall : RoundPlan → Type 0
AreSmall round = All HasSmallAges round.events

abbrev pub TicksAreSmall : List (List RoundPlan) → Type 0
TicksAreSmall ticks = All (All AreSmall) ticks
