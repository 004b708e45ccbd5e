-- The answer that there is once the lines of a schedule that are left are read.
use Rattle.std.proofs.Common.{◌≡◌, ◌≤◌, ◌<◌, ℕ, suc, ◌+◌, Bool, true, cond, List, [], ◌∷◌, ◌++◌, length, drop, map, Some, None, Err, sym, ap, ◌∙◌, arith, add-one, drop_of_length-le}
use Rattle.sched_text.proofs.Common.{Option, unwrap_or, option_map, option_or, sum_by-cons, Parts, PlannedEvent, RoundPlan, Line, line_at, SchedFault, unless, kind, is_tick, nearest, begins_tick, is_cut_off, fault_at, fault_at_end, first_fault, statement, schedule, Draft, follow, ended}
use Rattle.std.specs.Prelude.{◌||◌, option_to_list}
use Rattle.std.proofs.Math.Bool.{or-false}
use Rattle.std.proofs.lemmas.List.{append-nil, append_assoc}
use Rattle.sched_text.proofs.VectorLemmas.{lines_here}
use Rattle.sched_text.specs.declared.place.SchedulePlace.{SchedulePlace}
use Rattle.sched_text.specs.declared.statement.ScheduleStatement.{ScheduleStatement}
use Rattle.sched_text.specs.declared.statement.ScheduleStatement.TheVariants.{Tick, Round, Event}
use Rattle.sched_text.specs.Schedules.{events_ahead, rounds_ahead, ticks_ahead}
use Rattle.sched_text.specs.Running.{OpenTick, with_event, new_round, ended_tick, new_tick, begin_round, add_event}
use Rattle.sched_text.specs.ReadingOn.{rounds_from, ticks_from, whole, before, answer, ReadsAt}

-- ---- the draft that goes on

or_true : (b c : Bool) → (b || (true || c)) ≡ true
or_true b c = grind arith

next_told : {X : Type 0} (later told : Option X) (known : X) → unwrap_or (option_or later told) known ≡ unwrap_or later (unwrap_or told known)
next_told later told known = grind arith

-- the round in progress, where no event follows and no other round
rounds_over : (round : Option RoundPlan) (said : List ScheduleStatement) → events_ahead said ≡ [] → rounds_ahead said ≡ [] → rounds_from round said ≡ option_to_list round
rounds_over round said no_event no_round = grind (arith, append-nil)

pub whole_end : (draft : Draft) → whole draft [] ≡ ended draft
whole_end draft = grind (arith, append-nil, or-false, rounds_over)

-- the ticks behind a line that begins a tick
ticks_at_tick : (ticks : List (List RoundPlan)) (tick : Option OpenTick) (rest : List ScheduleStatement)
    → ticks ++ ticks_from tick (Tick ∷ rest) ≡ (ticks ++ option_to_list (option_map ended_tick tick)) ++ ticks_from (Some new_tick) rest
ticks_at_tick ticks tick rest = grind (arith, append_assoc, rounds_over)

-- and behind one that begins a round
rounds_at_round : (n : ℕ) (round : Option RoundPlan) (rest : List ScheduleStatement)
    → rounds_from round (Round n ∷ rest) ≡ option_to_list round ++ rounds_from (Some (new_round n)) rest
rounds_at_round n round rest = grind (arith, append-nil)

ticks_at_round : (n : ℕ) (tick : Option OpenTick) (rest : List ScheduleStatement) → ticks_from tick (Round n ∷ rest) ≡ ticks_from (option_map (begin_round n) tick) rest
ticks_at_round n tick rest = grind (arith, rounds_at_round, append_assoc)

-- and behind an event
rounds_at_event : (planned : PlannedEvent) (round : Option RoundPlan) (rest : List ScheduleStatement)
    → rounds_from round (Event planned ∷ rest) ≡ rounds_from (option_map (with_event planned) round) rest
rounds_at_event planned round rest = grind (arith, append_assoc)

ticks_at_event : (planned : PlannedEvent) (tick : Option OpenTick) (rest : List ScheduleStatement) → ticks_from tick (Event planned ∷ rest) ≡ ticks_from (option_map (add_event planned) tick) rest
ticks_at_event planned tick rest = grind (arith, rounds_at_event)

-- they stay where the line is of the head
ticks_at_other : (tick : Option OpenTick) (said : ScheduleStatement) (rest : List ScheduleStatement)
    → events_ahead (said ∷ rest) ≡ events_ahead rest → rounds_ahead (said ∷ rest) ≡ rounds_ahead rest → ticks_ahead (said ∷ rest) ≡ ticks_ahead rest
    → ticks_from tick (said ∷ rest) ≡ ticks_from tick rest
ticks_at_other tick said rest es rs ts = grind arith

-- what the next line says
pub whole_step : (draft : Draft) (said : ScheduleStatement) (rest : List ScheduleStatement) → whole draft (said ∷ rest) ≡ whole (follow draft said) rest
whole_step draft said rest = grind (arith, ticks_at_tick, next_told, ticks_at_round, ticks_at_event, ticks_at_other, append_assoc, or_true)

-- ---- reading on

-- the line here has this fault, or none, as its place tells
fault_here : (net : Parts) (ticks end : ℕ) (lines : List Line) (place : SchedulePlace) (draft : Draft) (i : ℕ) (cut_off : Bool) (found : Option SchedFault)
    → ReadsAt net ticks end lines place draft i → i < length lines → is_cut_off end (line_at lines i) (drop (i + 1) lines) ≡ cut_off
    → fault_at net ticks place.before place.begun cut_off (line_at lines i) ≡ found
    → unless (option_or found (first_fault net ticks end (line_at lines i ∷ before lines i) (drop (suc i) lines)))
    (whole draft (statement net (line_at lines i) ∷ map (statement net) (drop (suc i) lines))) ≡ schedule net ticks end lines
fault_here net ticks end lines place draft i cut_off found at inside cut is = grind (arith, add-one i, lines_here lines i inside)

pub at_next : (net : Parts) (ticks end : ℕ) (lines : List Line) (place next : SchedulePlace) (draft now : Draft) (i : ℕ) (cut_off : Bool)
    → ReadsAt net ticks end lines place draft i → i < length lines → is_cut_off end (line_at lines i) (drop (i + 1) lines) ≡ cut_off
    → fault_at net ticks place.before place.begun cut_off (line_at lines i) ≡ None
    → now ≡ follow draft (statement net (line_at lines i))
    → next.before ≡ Some (kind (line_at lines i)) → next.begun ≡ cond (is_tick (kind (line_at lines i))) 1 0 + place.begun → next.begun ≤ place.begun + 1
    → ReadsAt net ticks end lines next now (i + 1)
at_next net ticks end lines place next draft now i cut_off at inside cut none is b n one =
    let line = line_at lines i in
    let rest = drop (suc i) lines in
    let few = at.few in
    rw (is, add-one i) (record {
      nearest = b;
      begun = n ∙ ap (λ m. cond (is_tick (kind line)) 1 0 + m) at.begun ∙ sym (sum_by-cons (λ l. cond (begins_tick l) 1 0) line (before lines i));
      few = omega (arith, few, one);
      answers =
          ap (unless (first_fault net ticks end (line ∷ before lines i) rest)) (sym (whole_step draft (statement net line) (map (statement net) rest)))
          ∙ fault_here net ticks end lines place draft i cut_off None at inside cut none;
    })

pub at_fault : (net : Parts) (ticks end : ℕ) (lines : List Line) (place : SchedulePlace) (draft : Draft) (i : ℕ) (cut_off : Bool) (found : SchedFault)
    → ReadsAt net ticks end lines place draft i → i < length lines → is_cut_off end (line_at lines i) (drop (i + 1) lines) ≡ cut_off
    → fault_at net ticks place.before place.begun cut_off (line_at lines i) ≡ Some found
    → schedule net ticks end lines ≡ Err found
at_fault net ticks end lines place draft i cut_off found at inside cut is = sym (fault_here net ticks end lines place draft i cut_off (Some found) at inside cut is)

-- where no line is left
pub answers_end : (net : Parts) (ticks end : ℕ) (lines : List Line) (place : SchedulePlace) (draft : Draft) (i : ℕ) (found : Option SchedFault)
    → ReadsAt net ticks end lines place draft i → length lines ≤ i → fault_at_end ticks end place.before place.begun ≡ found
    → schedule net ticks end lines ≡ unless found (ended draft)
answers_end net ticks end lines place draft i found at over is = grind (arith, drop_of_length-le, whole_end)
