-- What is left of a tick once some of its rounds were played.
use Rattle.std.proofs.Common.{◌≡◌, ℕ, ◌+◌, ◌<◌, ◌≤◌, List, [], ◌∷◌, length, drop, get_or, None, Some, Option, refl, ap, sym, ◌∙◌, arith}
use Rattle.std.specs.List.{cons_option}
use Rattle.std.proofs.lemmas.List.{drop_all, drop_more}
use Rattle.delay_core.proofs.Common.{option_or, PlayFault, PlannedEvent, RoundPlan, PlayState, after_event, planned_fault, after_planned, events_fault, round_fault, after_plan, rounds_fault, after_plans}
use Rattle.delay_core.specs.declared.change.Change.{Change}
use Rattle.delay_core.specs.Changes.{event_changes, round_changes, logged}
use Rattle.delay_core.specs.EventLists.{planned_at}
use Rattle.delay_core.specs.Plays.{change_by}
use Rattle.delay_core.proofs.ChangeLemmas.{logged_more, logged_all, option_first}

-- the first of two faults, where the first is none
pub second_fault : (first second : Option PlayFault) → first ≡ None → option_or first second ≡ second
second_fault first second e = rw e refl

pub first_fails : (first second : Option PlayFault) (fault : PlayFault) → first ≡ Some fault → option_or first second ≡ Some fault
first_fails first second fault e = rw e refl

module _ (start now next : PlayState) (rounds : List RoundPlan) (i : ℕ) (round : RoundPlan) (l : i < length rounds) (is : round ≡ get_or rounds i round) where
  left : drop i rounds ≡ round ∷ drop (i + 1) rounds
  left = drop_more rounds i round l ∙ ap (λ (r : RoundPlan). r ∷ drop (i + 1) rounds) (sym is)

  module _ (played : next ≡ after_plan now round) where
    pub fault_left : round_fault now round ≡ None → rounds_fault start rounds ≡ rounds_fault now (drop i rounds) → rounds_fault start rounds ≡ rounds_fault next (drop (i + 1) rounds)
    fault_left none before = grind (arith, left, second_fault (round_fault now round) (rounds_fault (after_plan now round) (drop (i + 1) rounds)) none)

    pub plans_left : after_plans start rounds ≡ after_plans now (drop i rounds) → after_plans start rounds ≡ after_plans next (drop (i + 1) rounds)
    plans_left before = grind (arith, left)

    pub changes_left : (first log more : Option (List Change)) → more ≡ logged log (event_changes now round.events) → logged first (round_changes start rounds) ≡ logged log (round_changes now (drop i rounds)) → logged first (round_changes start rounds) ≡ logged more (round_changes next (drop (i + 1) rounds))
    changes_left first log more kept before =
        logged_more first log more _ _ (event_changes now round.events) (round_changes next (drop (i + 1) rounds))
        (rw (played, left) refl) kept before

pub all_rounds_changed : (start now : PlayState) (rounds : List RoundPlan) (i : ℕ) (first log : Option (List Change)) → length rounds ≤ i → logged first (round_changes start rounds) ≡ logged log (round_changes now (drop i rounds)) → log ≡ logged first (round_changes start rounds)
all_rounds_changed start now rounds i first log over before =
    logged_all first log _ _ (ap (round_changes now) (drop_all i rounds over)) before

-- and of a round once some of its events were played

module _ (start now : PlayState) (events : List PlannedEvent) (i : ℕ) where
  module _ (l : i < length events) where
    events_left : drop i events ≡ planned_at events i ∷ drop (i + 1) events
    events_left = drop_more events i _ l

    pub event_fails : (fault : PlayFault) → planned_fault now (planned_at events i) ≡ Some fault → events_fault start events ≡ events_fault now (drop i events) → events_fault start events ≡ Some fault
    event_fails fault fails before = grind (arith, events_left, first_fails (planned_fault now (planned_at events i)) (events_fault (after_event now (planned_at events i).event) (drop (i + 1) events)) fault fails)

    module _ (next : PlayState) (played : next ≡ after_event now (planned_at events i).event) where
      pub event_fault_left : planned_fault now (planned_at events i) ≡ None → events_fault start events ≡ events_fault now (drop i events) → events_fault start events ≡ events_fault next (drop (i + 1) events)
      event_fault_left none before = grind (arith, events_left, second_fault (planned_fault now (planned_at events i)) (events_fault (after_event now (planned_at events i).event) (drop (i + 1) events)) none)

      pub events_after_left : after_planned start events ≡ after_planned now (drop i events) → after_planned start events ≡ after_planned next (drop (i + 1) events)
      events_after_left before = grind (arith, events_left)

      pub event_changes_left : (first log more : Option (List Change)) → more ≡ logged log (cons_option (change_by now (planned_at events i).event) []) → logged first (event_changes start events) ≡ logged log (event_changes now (drop i events)) → logged first (event_changes start events) ≡ logged more (event_changes next (drop (i + 1) events))
      event_changes_left first log more kept before =
          logged_more first log more _ _ (cons_option (change_by now (planned_at events i).event) []) (event_changes next (drop (i + 1) events))
          (rw (played, events_left) (option_first (change_by now (planned_at events i).event) _)) kept before

  module _ (over : length events ≤ i) where
    pub no_fault_left : events_fault start events ≡ events_fault now (drop i events) → events_fault start events ≡ None
    no_fault_left before = before ∙ ap (events_fault now) (drop_all i events over)

    pub all_played : after_planned start events ≡ after_planned now (drop i events) → now ≡ after_planned start events
    all_played before = sym (before ∙ ap (after_planned now) (drop_all i events over))

    pub all_changed : (first log : Option (List Change)) → logged first (event_changes start events) ≡ logged log (event_changes now (drop i events)) → log ≡ logged first (event_changes start events)
    all_changed first log before = logged_all first log _ _ (ap (event_changes now) (drop_all i events over)) before
