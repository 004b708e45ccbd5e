-- What a line says, where it has no fault.
use Rattle.std.specs.Prelude.{ℕ, List, [], ◌∷◌, map, unwrap_or}
use Rattle.netlist.specs.declared.parts.Parts.{Parts}
use Rattle.schedules.specs.declared.event.Event as events
use Rattle.delay_core.specs.declared.plan.PlannedEvent.{PlannedEvent}
use Rattle.blif_text.specs.Texts.{Line}
use Rattle.sched_text.specs.declared.kind.ScheduleKind.{ScheduleKind}
use Rattle.sched_text.specs.declared.kind.ScheduleKind.TheVariants as kinds
use Rattle.sched_text.specs.declared.statement.ScheduleStatement.{ScheduleStatement}
use Rattle.sched_text.specs.declared.statement.ScheduleStatement.TheVariants.{Format, Window, Past, Latches, State, Gates, Tick, Round, Event}
use Rattle.sched_text.specs.Kinds.{kind}
use Rattle.sched_text.specs.Numbers.{number_of}
use Rattle.sched_text.specs.LineFaults.{arguments, bits_of, gate_number}

abbrev pub window_of : List (List ℕ) → ℕ
window_of [] = 0
window_of (word ∷ rest) = number_of word

-- the gate of the name, and an age for each further word
abbrev pub gate_of : Parts → List (List ℕ) → ℕ
gate_of net [] = 0
gate_of net (name ∷ ages) = unwrap_or (gate_number net name) 0

abbrev pub ages_of : List (List ℕ) → List ℕ
ages_of [] = []
ages_of (name ∷ ages) = map number_of ages

abbrev pub event_of : Parts → List (List ℕ) → events.Event
event_of net words = record { gate = gate_of net words; ages = ages_of words }

abbrev pub planned : Parts → ℕ → List (List ℕ) → PlannedEvent
planned net n words = record { line = n; event = event_of net words }

abbrev pub statement_of : Parts → ScheduleKind → ℕ → List (List ℕ) → ScheduleStatement
statement_of net kinds.Window n words = Window (window_of words)
statement_of net kinds.Past n words = Past (bits_of words)
statement_of net kinds.Latches n words = Latches (bits_of words)
statement_of net kinds.State n words = State (bits_of words)
statement_of net kinds.Gates n words = Gates (bits_of words)
statement_of net kinds.Tick n words = Tick
statement_of net kinds.Round n words = Round n
statement_of net kinds.Event n words = Event (planned net n words)
statement_of net other n words = Format

abbrev pub statement : Parts → Line → ScheduleStatement
statement net line = statement_of net (kind line) line.number (arguments line.words)
