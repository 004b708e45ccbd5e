-- The text of a schedule in format 2: its lines, and what each line is made of.
use Rattle.std.specs.Prelude.{ℕ, Bool, true, false, List, [], ◌∷◌, ◌++◌, map, codes, decimal}
use Rattle.std.specs.List.{flat_map}
use Rattle.cyc_io.specs.Bits.{bits_text}
use Rattle.netlist.specs.declared.parts.Parts.{Parts}
use Rattle.netlist.specs.Netlists.{gate_at}
use Rattle.delay_core.specs.declared.plan.PlannedEvent.{PlannedEvent}
use Rattle.delay_core.specs.declared.plan.RoundPlan.{RoundPlan}
use Rattle.delay_core.specs.declared.plan.Schedule.{Schedule}

-- Lines of words.

abbrev pub after_blank : List ℕ → List ℕ
after_blank word = 32 ∷ word

-- the words of a line with one blank between, and LF
abbrev pub line_text : List (List ℕ) → List ℕ
line_text [] = codes "\n"
line_text (word ∷ rest) = word ++ (flat_map after_blank rest ++ codes "\n")

-- The lines of a schedule, as words.

-- bits are one word, which isn't there where there are none
abbrev pub bits_words : List Bool → List (List ℕ)
bits_words [] = []
bits_words (b ∷ bits) = bits_text (b ∷ bits) ∷ []

abbrev pub past_line : List Bool → List (List ℕ)
past_line moment = codes "past" ∷ bits_words moment

-- what the latches start with, free or as their inits permit
abbrev pub start_word : Bool → List ℕ
start_word true = codes "state"
start_word false = codes "latches"

abbrev pub event_line : Parts → PlannedEvent → List (List ℕ)
event_line net planned = codes "e" ∷ (gate_at net planned.event.gate).name ∷ map decimal planned.event.ages

abbrev pub round_lines : Parts → RoundPlan → List (List (List ℕ))
round_lines net round = (codes "round" ∷ []) ∷ map (event_line net) round.events

abbrev pub tick_lines : Parts → List RoundPlan → List (List (List ℕ))
tick_lines net rounds = (codes "tick" ∷ []) ∷ flat_map (round_lines net) rounds

abbrev pub head_lines : Schedule → List (List (List ℕ))
head_lines schedule =
    (codes "schedule" ∷ codes "2" ∷ [])
    ∷ (codes "window" ∷ decimal schedule.window ∷ [])
    ∷ (map past_line schedule.past
    ++ ((start_word schedule.free ∷ bits_words schedule.latches) ∷ (codes "gates" ∷ bits_words schedule.gates) ∷ []))

abbrev pub lines_of : Parts → Schedule → List (List (List ℕ))
lines_of net schedule = head_lines schedule ++ flat_map (tick_lines net) schedule.ticks

-- the text of a schedule
abbrev pub written : Parts → Schedule → List ℕ
written net schedule = flat_map line_text (lines_of net schedule)
