-- What is fair is played without a fault, and nothing else is.
use Rattle.std.proofs.Common.{◌≡◌, ◌↔◌, ◌⊎◌, ℕ, ◌<◌, Bool, true, false, not, List, [], ◌∷◌, length, map, reverse, get_or, set, All, Any, None, Option, refl, ap, ◌∙◌, arith}
use Rattle.delay_core.proofs.Common.{option_map, option_or, cases_eq, length-set, length-replicate, get_or-set_other, get_or_default, All-head, All-tail, Parts, History, gate_at, Event, newest, IsEventOf, Played, loaded_at, play, EventFault, PlayFault, PlannedEvent, RoundPlan, Schedule, PlayState, first_allowed, event_fault, no_events, after_event, next_tick, planned_fault, after_planned, events_fault, after_plan, round_fault, after_plans, rounds_fault, PlannedTick, ticks_fault, first_opened, tick_of, IsPlayedFairly, rest_of}
use Rattle.std.proofs.lemmas.Bool.{lt-ltb, le-ltb, eq-eqb}
use Rattle.std.proofs.lemmas.List.{get_or-set_same}
use Rattle.std.proofs.lemmas.List.Elements.{All-nil, All-cons}
use Rattle.netlist.proofs.Decisions.{found_none}
use Rattle.schedules.specs.Moments.{after_rounds}
use Rattle.schedules.specs.Fairness.{ReadsFrom, IsFairRound, AreFairAfter}
use Rattle.delay_core.specs.declared.fault.PlayFault.TheVariants as refused
use Rattle.delay_core.specs.Plays.{is_too_old, unfair_gate}
use Rattle.delay_core.specs.Plans.{unfair_fault, first_fault, round_of}
use Rattle.delay_core.proofs.FairLemmas.{events_of, round_fair, events_keep, round_keeps, rounds_keep, rounds_history, starts_more, length_more}
use Rattle.delay_core.proofs.PlayLemmas.{IsAllowed}

-- an element of which a fact holds stands first, or among the rest
Any-cases : (P : Event → Type 0) (x : Event) (xs : List Event) → Any P (x ∷ xs) → P x ⊎ Any P xs
Any-cases P x xs h = grind arith

-- an event that is one of the netlist and reads what it may isn't refused
allowed_none : (start : PlayState) (event : Event) → IsAllowed start event → event_fault start event ≡ None
allowed_none start event allowed =
    grind (arith, lt-ltb event.gate (length start.net.gates) allowed.of.gate, eq-eqb (length event.ages) (length (gate_at start.net event.gate).pins) allowed.of.ages, found_none (is_too_old start) event.ages 0, le-ltb (length start.history))

no_first : (first second : Option PlayFault) → first ≡ None → second ≡ None → option_or first second ≡ None
no_first first second e f = rw (e, f) refl

events_none : (start : PlayState) (events : List PlannedEvent) → All (IsEventOf start.net) (events_of events) → ReadsFrom (first_allowed start) (length start.history) (events_of events) → events_fault start events ≡ None
events_none start [] valid reads = refl
events_none start (planned ∷ later) valid reads =
    let allowed : IsAllowed start planned.event =
    record { of = All-head (IsEventOf start.net) planned.event (events_of later) valid; ages = reads.0 } in
    no_first (planned_fault start planned) (events_fault (after_event start planned.event) later)
    (ap (λ (f : Option EventFault). option_map (λ g. refused.Event planned.line g) f) (allowed_none start planned.event allowed))
    (events_none (after_event start planned.event) later (All-tail (IsEventOf start.net) planned.event (events_of later) valid) reads.1)

-- ---- each gate that had an event is known to have had one

set_true : (gates : List Bool) (gate n : ℕ) → gate < length gates → get_or gates n false ≡ true → get_or (set gates gate true) n false ≡ true
set_true gates gate n l t = grind (arith, cases_eq n gate, get_or-set_same gates gate true false l, get_or-set_other gates gate n true false)

still_had : (start : PlayState) (events : List PlannedEvent) (n : ℕ) → length start.done ≡ length start.net.gates → All (IsEventOf start.net) (events_of events) → get_or start.done n false ≡ true → get_or (after_planned start events).done n false ≡ true
still_had start [] n width valid t = t
still_had start (planned ∷ later) n width valid t =
    grind (arith, All-head (IsEventOf start.net) planned.event (events_of later) valid, still_had (after_event start planned.event) later n, length-set start.done planned.event.gate true, All-tail (IsEventOf start.net) planned.event (events_of later) valid, set_true start.done planned.event.gate n)

now_had : (start : PlayState) (events : List PlannedEvent) (n : ℕ) → length start.done ≡ length start.net.gates → All (IsEventOf start.net) (events_of events) → Any (λ (event : Event). event.gate ≡ n) (events_of events) → get_or (after_planned start events).done n false ≡ true
now_had start [] n width valid (k, x, l, e, p) = absurd (omega arith)
now_had start (planned ∷ later) n width valid any =
    let here = All-head (IsEventOf start.net) planned.event (events_of later) valid in
    let rest = All-tail (IsEventOf start.net) planned.event (events_of later) valid in
    let gate : planned.event.gate < length start.done = (let g = here.gate in omega arith) in
    let next : length (set start.done planned.event.gate true) ≡ length start.net.gates = length-set start.done planned.event.gate true ∙ width in
    grind (arith, Any-cases, still_had (after_event start planned.event) later n next rest, get_or-set_same start.done planned.event.gate true false gate, now_had (after_event start planned.event) later n next rest)

round_none : (start : PlayState) (round : RoundPlan) → start.done ≡ no_events start.net → IsFairRound start.net (first_allowed start) (length start.history) (round_of round) → round_fault start round ≡ None
round_none start round begun fair =
    let after : PlayState = after_planned start round.events in
    let width : length start.done ≡ length start.net.gates = ap (λ (d : List Bool). length d) begun ∙ length-replicate (length start.net.gates) false in
    let kept = events_keep start round.events in
    let none : unfair_gate after ≡ None =
    found_none (λ (had : Bool). not had) after.done false
    (λ k d l.
    let in_range : k < length start.net.gates = omega (arith, kept.done, width) in
    let had : get_or after.done k d ≡ true =
    get_or_default after.done k d false l ∙ now_had start round.events k width fair.events (fair.each_gate k in_range) in
    ap not had) in
    no_first (events_fault start round.events) (unfair_fault after round.line)
    (events_none start round.events fair.events fair.reads)
    (ap (λ (g : Option ℕ). option_map (λ n. refused.Unfair round.line n) g) none)

-- ---- so a schedule has no fault exactly where it is fair

both_iff : (first second : Option PlayFault) {P Q : Type 0} → (first ≡ None) ↔ P → (second ≡ None) ↔ Q → (option_or first second ≡ None) ↔ (P × Q)
both_iff first second here there = grind arith

rounds_iff : (start : PlayState) (rounds : List RoundPlan) (before : List ℕ) → start.done ≡ no_events start.net → start.starts ≡ length start.history ∷ before →
    (rounds_fault start rounds ≡ None) ↔ AreFairAfter start.net start.window before (length start.history) (map round_of rounds)
rounds_iff start [] before begun is = (λ none. tt, λ fair. refl)
rounds_iff start (round ∷ later) before begun is =
    let next : PlayState = after_plan start round in
    grind (arith, round_keeps start round, round_fair start round begun, round_none start round begun, rounds_iff next later (length start.history ∷ before), starts_more start round before is, both_iff (round_fault start round) (rounds_fault next later), length_more start round)

-- a tick that has opened, and those behind it
opened_iff : (opened : PlayState) (rounds : List RoundPlan) (later : List PlannedTick) (inputs latches : List Bool) → opened.done ≡ no_events opened.net → opened.starts ≡ length opened.history ∷ [] →
    let after = after_plans opened rounds in
    let ended = after_rounds opened.net opened.history (map round_of rounds) in
    (ticks_fault after later ≡ None) ↔ All (IsPlayedFairly after.net after.window) (rest_of after.net after.history (map tick_of later)) →
    (option_or (rounds_fault opened rounds) (ticks_fault after later) ≡ None)
    ↔ All (IsPlayedFairly opened.net opened.window) (record { inputs = inputs; latches = latches; rounds = map round_of rounds; opened = opened.history; ended = ended } ∷ rest_of opened.net ended (map tick_of later))
opened_iff opened rounds later inputs latches begun is there =
    let fairly = IsPlayedFairly opened.net opened.window in
    let ended : History = after_rounds opened.net opened.history (map round_of rounds) in
    let first : Played = record { inputs = inputs; latches = latches; rounds = map round_of rounds; opened = opened.history; ended = ended } in
    let rest : List Played = rest_of opened.net ended (map tick_of later) in
    let kept = rounds_keep opened rounds begun in
    let both = both_iff (rounds_fault opened rounds) (ticks_fault (after_plans opened rounds) later) (rounds_iff opened rounds [] begun is)
    (λ none. rw (kept.net, kept.window, rounds_history opened rounds) at (there.0 none), λ fair. there.1 (rw (kept.net, kept.window, rounds_history opened rounds) fair)) in (
      (λ none. All-cons fairly first rest (both.0 none).0 (both.0 none).1),
      (λ fair. both.1 (All-head fairly first rest fair, All-tail fairly first rest fair)),
    )

ticks_iff : (start : PlayState) (ticks : List PlannedTick) → start.done ≡ no_events start.net → (ticks_fault start ticks ≡ None) ↔ All (IsPlayedFairly start.net start.window) (rest_of start.net start.history (map tick_of ticks))
ticks_iff start [] begun = (λ none. All-nil (IsPlayedFairly start.net start.window), λ fair. refl)
ticks_iff start (tick ∷ later) begun =
    let opened : PlayState = next_tick start tick.0 in
    grind (arith, opened_iff opened tick.1 later tick.0 (loaded_at start.net (newest start.history)) begun, ticks_iff (after_plans opened tick.1) later (rounds_keep opened tick.1 begun).begun, rounds_keep opened tick.1 begun)

pub schedule_iff : (net : Parts) (schedule : Schedule) (plans : List PlannedTick) → (first_fault net schedule plans ≡ None) ↔ All (IsPlayedFairly net schedule.window) (play net (reverse schedule.past) schedule.latches schedule.gates (map tick_of plans))
schedule_iff net schedule [] = (λ none. All-nil (IsPlayedFairly net schedule.window), λ fair. refl)
schedule_iff net schedule (tick ∷ later) =
    let opened : PlayState = first_opened net schedule tick.0 in
    grind (arith, opened_iff opened tick.1 later tick.0 schedule.latches, ticks_iff (after_plans opened tick.1) later, rounds_keep opened tick.1)
