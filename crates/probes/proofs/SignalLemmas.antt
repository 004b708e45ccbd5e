-- The changes of a schedule without a fault are those of the netlist's signals.
use Rattle.std.proofs.Common.{◌≡◌, ◌<◌, Bool, true, nat_lt, List, [], ◌∷◌, All, None, refl, ap, ◌∙◌, arith}
use Rattle.std.specs.List.{zip, list_all}
use Rattle.std.proofs.lemmas.Bool.{lt-ltb, ltb-true}
use Rattle.std.proofs.lemmas.List.Sums.{AllPass-from_list_all}
use Rattle.netlist.specs.declared.parts.Parts.{Parts}
use Rattle.netlist.specs.Netlists.{count, gate_sig}
use Rattle.schedules.specs.Moments.{bit_at, newest, event_value}
use Rattle.delay_core.specs.declared.change.Change.{Change}
use Rattle.delay_core.specs.declared.plan.PlannedEvent.{PlannedEvent}
use Rattle.delay_core.specs.declared.plan.RoundPlan.{RoundPlan}
use Rattle.delay_core.specs.declared.plan.Schedule.{Schedule}
use Rattle.delay_core.specs.Plays.{PlayState, differ, after_event, next_tick}
use Rattle.delay_core.specs.Plans.{PlannedTick, planned_fault, events_fault, unfair_fault, round_fault, rounds_fault, ticks_fault, first_opened, first_fault, schedule_fault, after_planned, after_plan, after_plans}
use Rattle.delay_core.proofs.FairLemmas.{both_none, planned_allowed, events_keep, rounds_net}
use Rattle.probes.proofs.PassLemmas.{some_pass, both_pass, opening_pass}
use Rattle.delay_core.specs.Changes.{openings, event_changes, round_changes, tick_changes, later_changes, run_changes, changes}

module _ (net : Parts) where
  abbrev is_known : Change → Bool
  is_known c = nat_lt c.sig.0 (count net)

  abbrev all_known : List Change → Bool
  all_known = list_all is_known

  openings_known : (play : PlayState) → play.net ≡ net → all_known (openings play) ≡ true
  openings_known play same = opening_pass is_known play (λ s _ short. lt-ltb s (count net) (omega (arith, short, ap count same)))

  events_known : (play : PlayState) (events : List PlannedEvent) → play.net ≡ net → events_fault play events ≡ None → all_known (event_changes play events) ≡ true
  events_known play [] same none = refl
  events_known play (planned ∷ later) same none =
      let e = planned.event in
      let value : Bool = event_value play.net play.history e in
      let driven = gate_sig play.net e.gate in
      grind (arith, both_none (planned_fault play planned) (events_fault (after_event play e) later) none, planned_allowed play planned, some_pass is_known (differ (bit_at (newest play.history) driven) value), lt-ltb driven.0 (count net), events_known (after_event play e) later same)

  rounds_known : (play : PlayState) (rounds : List RoundPlan) → play.net ≡ net → rounds_fault play rounds ≡ None → all_known (round_changes play rounds) ≡ true
  rounds_known play [] same none = refl
  rounds_known play (round ∷ later) same none =
      let parts = both_none (round_fault play round) (rounds_fault (after_plan play round) later) none in
      let here = both_none (events_fault play round.events) (unfair_fault (after_planned play round.events) round.line) parts.0 in
      both_pass is_known (event_changes play round.events) (round_changes (after_plan play round) later)
      (events_known play round.events same here.0)
      (rounds_known (after_plan play round) later ((events_keep play round.events).net ∙ same) parts.1)

  ticks_known : (play : PlayState) (ticks : List PlannedTick) → play.net ≡ net → ticks_fault play ticks ≡ None → all_known (later_changes play ticks) ≡ true
  ticks_known play [] same none = refl
  ticks_known play (tick ∷ later) same none =
      let opened : PlayState = next_tick play tick.0 in
      let parts = both_none (rounds_fault opened tick.1) (ticks_fault (after_plans opened tick.1) later) none in
      both_pass is_known (tick_changes opened tick.1) (later_changes (after_plans opened tick.1) later)
      (both_pass is_known (openings opened) (round_changes opened tick.1) (openings_known opened same) (rounds_known opened tick.1 same parts.0))
      (ticks_known (after_plans opened tick.1) later (rounds_net opened tick.1 ∙ same) parts.1)

  run_known : (schedule : Schedule) (ticks : List PlannedTick) → first_fault net schedule ticks ≡ None → all_known (run_changes net schedule ticks) ≡ true
  run_known schedule [] none = refl
  run_known schedule (tick ∷ later) none =
      let opened : PlayState = first_opened net schedule tick.0 in
      let parts = both_none (rounds_fault opened tick.1) (ticks_fault (after_plans opened tick.1) later) none in
      both_pass is_known (tick_changes opened tick.1) (later_changes (after_plans opened tick.1) later)
      (both_pass is_known (openings opened) (round_changes opened tick.1) (openings_known opened refl) (rounds_known opened tick.1 refl parts.0))
      (ticks_known (after_plans opened tick.1) later (rounds_net opened tick.1) parts.1)

  pub changes_known : (schedule : Schedule) (vectors : List (List Bool)) → schedule_fault net schedule vectors ≡ None →
      All (λ (change : Change). change.sig.0 < count net) (changes net schedule vectors)
  changes_known schedule vectors none = grind (arith, AllPass-from_list_all is_known (changes net schedule vectors) (run_known schedule (zip vectors schedule.ticks) none), run_known schedule (zip vectors schedule.ticks) none, ltb-true)
