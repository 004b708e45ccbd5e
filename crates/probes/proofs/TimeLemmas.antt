-- When the changes of a run are: those of the first opening at moment 0, and all others later, before its end.
use Rattle.std.proofs.Common.{◌≡◌, ◌<◌, ◌≤◌, ◌+◌, ℕ, Bool, true, List, [], ◌∷◌, length, refl, arith}
use Rattle.std.specs.List.{list_all}
use Rattle.netlist.specs.Netlists.{gate_sig}
use Rattle.schedules.specs.Moments.{bit_at, newest, event_value}
use Rattle.delay_core.specs.declared.change.Change.{Change}
use Rattle.delay_core.specs.declared.plan.PlannedEvent.{PlannedEvent}
use Rattle.delay_core.specs.declared.plan.RoundPlan.{RoundPlan}
use Rattle.delay_core.specs.Plays.{PlayState, differ, place, after_event, next_tick}
use Rattle.delay_core.specs.Plans.{PlannedTick, after_planned, after_plan, after_plans}
use Rattle.delay_core.specs.Changes.{openings, event_changes, round_changes, tick_changes, later_changes}
use Rattle.probes.specs.Values.{after_ticks}
use Rattle.probes.proofs.PassLemmas.{opened_change, some_pass, both_pass, opening_pass}

-- what a play keeps: its past, and its history only grows
pub record Grows (before after : PlayState) : Type 0 where
  pub past : after.past ≡ before.past
  pub longer : length before.history ≤ length after.history

pub events_grow : (play : PlayState) (events : List PlannedEvent) → Grows play (after_planned play events)
events_grow play [] = record { past = refl; longer = omega arith }
events_grow play (e ∷ later) = grind (arith, events_grow (after_event play e.event) later)

pub rounds_grow : (play : PlayState) (rounds : List RoundPlan) → Grows play (after_plans play rounds)
rounds_grow play [] = record { past = refl; longer = omega arith }
rounds_grow play (round ∷ later) = grind (arith, events_grow play round.events, rounds_grow (after_plan play round) later)

pub ticks_grow : (play : PlayState) (ticks : List PlannedTick) → Grows play (after_ticks play ticks)
ticks_grow play [] = record { past = refl; longer = omega arith }
ticks_grow play (tick ∷ later) = grind (arith, rounds_grow (next_tick play tick.0) tick.1, ticks_grow (after_plans (next_tick play tick.0) tick.1) later)

-- a test that each change passes from moment `low` on and before moment `high`
module _ (p : Change → Bool) (low high : ℕ) (passes : (c : Change) → low ≤ c.at → c.at < high → p c ≡ true) where
  pub openings_pass : (play : PlayState) → low ≤ place play play.opening → place play play.opening < high → list_all p (openings play) ≡ true
  openings_pass play late early = opening_pass p play (λ s value _. passes (opened_change play s value) late early)

  events_pass : (play : PlayState) (events : List PlannedEvent) → play.past + low ≤ length play.history → length (after_planned play events).history ≤ play.past + high →
      list_all p (event_changes play events) ≡ true
  events_pass play [] begun ends = refl
  events_pass play (planned ∷ later) begun ends =
      let e = planned.event in
      let value : Bool = event_value play.net play.history e in
      let driven = gate_sig play.net e.gate in
      grind (arith, events_grow (after_event play e) later, some_pass p (differ (bit_at (newest play.history) driven) value), events_pass (after_event play e) later)

  pub rounds_pass : (play : PlayState) (rounds : List RoundPlan) → play.past + low ≤ length play.history → length (after_plans play rounds).history ≤ play.past + high →
      list_all p (round_changes play rounds) ≡ true
  rounds_pass play [] begun ends = refl
  rounds_pass play (round ∷ later) begun ends =
      grind (arith, events_grow play round.events, rounds_grow (after_plan play round) later, both_pass p (event_changes play round.events) (round_changes (after_plan play round) later), events_pass play round.events begun, rounds_pass (after_plan play round) later)

  pub ticks_pass : (play : PlayState) (ticks : List PlannedTick) → play.past + low ≤ length play.history → length (after_ticks play ticks).history ≤ play.past + high →
      list_all p (later_changes play ticks) ≡ true
  ticks_pass play [] begun ends = refl
  ticks_pass play (tick ∷ later) begun ends =
      let opened : PlayState = next_tick play tick.0 in
      let here = rounds_grow opened tick.1 in
      let rest = ticks_grow (after_plans opened tick.1) later in
      let first : list_all p (openings opened) ≡ true = openings_pass opened (omega (arith, begun)) (omega (arith, begun, ends, here.longer, rest.longer)) in
      let second : list_all p (round_changes opened tick.1) ≡ true = rounds_pass opened tick.1 (omega (arith, begun)) (omega (arith, ends, rest.longer)) in
      grind (arith, ticks_pass (after_plans opened tick.1) later, both_pass p (tick_changes opened tick.1) (later_changes (after_plans opened tick.1) later) (both_pass p (openings opened) (round_changes opened tick.1) first second), both_pass p (openings opened) (round_changes opened tick.1) first second)
