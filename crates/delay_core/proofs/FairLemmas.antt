-- What is played without a fault is fair, and makes the moments of its run.
use Rattle.std.proofs.Common.{◌≡◌, ◌⊎◌, inl, inr, ℕ, suc, ◌+◌, Bool, true, false, List, [], ◌∷◌, length, map, reverse, get_or, All, Any, None, Option, refl, ap, sym, ◌∙◌, arith, true≢false}
use Rattle.delay_core.proofs.Common.{option_or, cases_eq, length-set, length-map, length-replicate, get_or-set_other, Parts, Event, newest, IsEventOf, play, PlayFault, PlannedEvent, RoundPlan, Schedule, PlayState, first_allowed, event_fault, no_events, after_event, next_tick, planned_fault, after_planned, events_fault, after_plan, round_fault, after_plans, PlannedTick, first_opened, tick_of, rest_of}
use Rattle.std.proofs.lemmas.List.Elements.{All-nil, All-cons}
use Rattle.cyc_base.proofs.ListLemmas.{option_map-nothing}
use Rattle.schedules.specs.Moments.{Round, after_events, after_rounds}
use Rattle.schedules.specs.Fairness.{ReadsFrom, IsFairRound}
use Rattle.schedules.proofs.RoundLemmas.{length-after_events}
use Rattle.delay_core.specs.Plays.{unfair_gate}
use Rattle.delay_core.specs.Plans.{unfair_fault, round_of, end_at, end_of}
use Rattle.delay_core.proofs.PlayLemmas.{IsAllowed, is_allowed, never_true, each_had}

abbrev pub events_of : List PlannedEvent → Round
events_of = map (λ planned. planned.event)

-- ---- where events, rounds and ticks lead

events_history : (start : PlayState) (events : List PlannedEvent) → (after_planned start events).history ≡ after_events start.net start.history (events_of events)
events_history start [] = refl
events_history start (planned ∷ later) = events_history (after_event start planned.event) later

-- what an event keeps
pub record Kept (start now : PlayState) : Type 0 where
  pub net : now.net ≡ start.net
  pub window : now.window ≡ start.window
  pub starts : now.starts ≡ start.starts
  pub done : length now.done ≡ length start.done

pub events_keep : (start : PlayState) (events : List PlannedEvent) → Kept start (after_planned start events)
events_keep start [] = record { net = refl; window = refl; starts = refl; done = refl }
events_keep start (planned ∷ later) = grind (arith, events_keep (after_event start planned.event) later, length-set start.done planned.event.gate true)

-- what a round keeps, at whose end no gate had an event
pub record KeptByRounds (start now : PlayState) : Type 0 where
  pub net : now.net ≡ start.net
  pub window : now.window ≡ start.window
  pub begun : now.done ≡ no_events now.net

pub round_keeps : (start : PlayState) (round : RoundPlan) → KeptByRounds start (after_plan start round)
round_keeps start round = grind (arith, events_keep start round.events)

pub rounds_keep : (start : PlayState) (rounds : List RoundPlan) → start.done ≡ no_events start.net → KeptByRounds start (after_plans start rounds)
rounds_keep start [] begun = record { net = refl; window = refl; begun = begun }
rounds_keep start (round ∷ later) begun = grind (arith, round_keeps start round, rounds_keep (after_plan start round) later)

pub rounds_net : (start : PlayState) (rounds : List RoundPlan) → (after_plans start rounds).net ≡ start.net
rounds_net start [] = refl
rounds_net start (round ∷ later) = rounds_net (after_plan start round) later ∙ (events_keep start round.events).net

pub rounds_history : (start : PlayState) (rounds : List RoundPlan) → (after_plans start rounds).history ≡ after_rounds start.net start.history (map round_of rounds)
rounds_history start [] = refl
rounds_history start (round ∷ later) = grind (arith, events_keep start round.events, rounds_history (after_plan start round) later, events_history start round.events)

-- ---- no fault

pub both_none : (first second : Option PlayFault) → option_or first second ≡ None → (first ≡ None) × (second ≡ None)
both_none first second e = grind arith

pub planned_allowed : (start : PlayState) (planned : PlannedEvent) → planned_fault start planned ≡ None → IsAllowed start planned.event
planned_allowed start planned none = is_allowed start planned.event (option_map-nothing _ (event_fault start planned.event) none)

Any-first : (P : Event → Type 0) (x : Event) (xs : List Event) → P x → Any P (x ∷ xs)
Any-first P x xs p = (0, x, omega arith, refl, p)

Any-later : (P : Event → Type 0) (x : Event) (xs : List Event) → Any P xs → Any P (x ∷ xs)
Any-later P x xs (k, y, l, e, p) = (suc k, y, omega arith, e, p)

-- events without a fault are events of the netlist, which read what they may
record AreFairEvents (start : PlayState) (events : List PlannedEvent) : Type 0 where
  pub valid : All (IsEventOf start.net) (events_of events)
  pub reads : ReadsFrom (first_allowed start) (length start.history) (events_of events)
  pub had : (n : ℕ) → get_or (after_planned start events).done n false ≡ true → (get_or start.done n false ≡ true) ⊎ Any (λ (event : Event). event.gate ≡ n) (events_of events)

module _ (start : PlayState) (planned : PlannedEvent) (later : List PlannedEvent) (rest : AreFairEvents (after_event start planned.event) later) where
  had_more : (n : ℕ) → get_or (after_planned start (planned ∷ later)).done n false ≡ true → (get_or start.done n false ≡ true) ⊎ Any (λ (event : Event). event.gate ≡ n) (events_of (planned ∷ later))
  had_more n t =
      elim (rest.had n t) [
        | inl before ↦
            elim (cases_eq planned.event.gate n) [
              | inl e ↦ inr (Any-first (λ (event : Event). event.gate ≡ n) planned.event (events_of later) e)
              | inr ne ↦ inl (sym (get_or-set_other start.done planned.event.gate n true false (λ e. ne (sym e))) ∙ before)
            ]
        | inr after ↦ inr (Any-later (λ (event : Event). event.gate ≡ n) planned.event (events_of later) after)
      ]

events_fair : (start : PlayState) (events : List PlannedEvent) → events_fault start events ≡ None → AreFairEvents start events
events_fair start [] e = record { valid = All-nil (IsEventOf start.net); reads = tt; had = λ n t. inl t }
events_fair start (planned ∷ later) e =
    let parts = both_none (planned_fault start planned) (events_fault (after_event start planned.event) later) e in
    let allowed : IsAllowed start planned.event = planned_allowed start planned parts.0 in
    let rest = events_fair (after_event start planned.event) later parts.1 in
    record {
      valid = All-cons (IsEventOf start.net) planned.event (events_of later) allowed.of rest.valid;
      reads = (allowed.ages, rest.reads);
      had = had_more start planned later rest;
    }

had_none : (start : PlayState) (n : ℕ) → start.done ≡ no_events start.net → get_or start.done n false ≡ true → ⊥
had_none start n begun t = true≢false (sym t ∙ ap (λ (d : List Bool). get_or d n false) begun ∙ never_true (length start.net.gates) n)

-- so is a round in which each gate had one
pub round_fair : (start : PlayState) (round : RoundPlan) → start.done ≡ no_events start.net → round_fault start round ≡ None → IsFairRound start.net (first_allowed start) (length start.history) (round_of round)
round_fair start round begun e =
    let after : PlayState = after_planned start round.events in
    let parts = both_none (events_fault start round.events) (unfair_fault after round.line) e in
    let fair = events_fair start round.events parts.0 in
    let kept = events_keep start round.events in
    let width : length after.done ≡ length start.net.gates = kept.done ∙ ap (λ (d : List Bool). length d) begun ∙ length-replicate (length start.net.gates) false in
    record {
      events = fair.valid;
      each_gate = λ n l.
          elim (fair.had n (each_had after.done (option_map-nothing _ (unfair_gate after) parts.1) n (omega (arith, width)))) [
            | inl before ↦ absurd (had_none start n begun before)
            | inr any ↦ any
          ];
      reads = fair.reads;
    }

-- ---- rounds

pub starts_more : (start : PlayState) (round : RoundPlan) (before : List ℕ) → start.starts ≡ length start.history ∷ before → (after_plan start round).starts ≡ length (after_plan start round).history ∷ length start.history ∷ before
starts_more start round before is = grind (arith, events_keep start round.events)

-- each round adds its start
pub count_more : (start : PlayState) (round : RoundPlan) → length (after_plan start round).starts ≡ suc (length start.starts)
count_more start round = ap (λ (ss : List ℕ). suc (length ss)) (events_keep start round.events).starts

pub length_more : (start : PlayState) (round : RoundPlan) → length (after_plan start round).history ≡ length start.history + length (round_of round)
length_more start round = grind (arith, events_history start round.events, length-after_events start.net start.history (round_of round))

-- ---- how ticks end

-- the ends of what is left begin with that of the tick that opens next
pub ends_of_rest : (net : Parts) (start : PlayState) (tick : PlannedTick) (later : List PlannedTick) → start.net ≡ net → map (end_of net) (rest_of net start.history (map tick_of (tick ∷ later))) ≡ end_at net (newest (after_plans (next_tick start tick.0) tick.1).history) (length tick.1) ∷ map (end_of net) (rest_of net (after_plans (next_tick start tick.0) tick.1).history (map tick_of later))
ends_of_rest net start tick later same = grind (arith, rounds_history (next_tick start tick.0) tick.1, length-map tick.1 round_of)

pub ends_of_first : (net : Parts) (schedule : Schedule) (tick : PlannedTick) (later : List PlannedTick) → map (end_of net) (play net (reverse schedule.past) schedule.latches schedule.gates (map tick_of (tick ∷ later))) ≡ end_at net (newest (after_plans (first_opened net schedule tick.0) tick.1).history) (length tick.1) ∷ map (end_of net) (rest_of net (after_plans (first_opened net schedule tick.0) tick.1).history (map tick_of later))
ends_of_first net schedule tick later =
    let opened : PlayState = first_opened net schedule tick.0 in
    grind (arith, rounds_history opened tick.1, length-map tick.1 round_of)
