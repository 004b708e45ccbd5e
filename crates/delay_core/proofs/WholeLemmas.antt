-- Tick by tick, a schedule is played whole.
use Rattle.std.proofs.Common.{◌≡◌, ℕ, ◌+◌, ◌<◌, ◌≤◌, List, [], ◌∷◌, ◌++◌, length, map, drop, None, Some, Option, refl, ap, sym, ◌∙◌, arith}
use Rattle.std.specs.Prelude.{IfErr, IsErrAnd}
use Rattle.std.specs.declared.result.Result.{Result}
use Rattle.delay_core.proofs.Common.{option_or, newest, PlayFault, PlayState, no_events, next_tick, after_plans, rounds_fault, PlannedTick, ticks_fault, first_opened, schedule_fault, tick_of, rest_of}
use Rattle.std.proofs.lemmas.List.{append_assoc, append-nil, drop_all, drop_more}
use Rattle.std.proofs.lemmas.Slice.Zip.{length-zip, get_or-zip}
use Rattle.schedules.specs.Runs.{ticks_of}
use Rattle.delay_core.specs.declared.change.Change.{Change}
use Rattle.delay_core.specs.declared.plan.TickEnd.{TickEnd}
use Rattle.delay_core.specs.Changes.{tick_changes, later_changes, changes, logged}
use Rattle.delay_core.specs.ScheduledRuns.{Scheduled, IsScheduled, inputs_at, rounds_at, planned}
use Rattle.delay_core.specs.Plans.{run_of, end_at, end_of}
use Rattle.delay_core.proofs.ChangeLemmas.{logged_more, logged_all}
use Rattle.delay_core.proofs.FairLemmas.{rounds_keep, ends_of_rest, ends_of_first}
use Rattle.delay_core.proofs.PlanLemmas.{first_fails, second_fault}

-- what is passed on is that fault
pub err_is : {A : Type 0} (r : Result A PlayFault) (f : PlayFault) (P : PlayFault → Type 0) → IsErrAnd r (λ e. e ≡ f) → P f → IfErr r P
err_is r f P is p = grind arith

module _ (run : Scheduled) (start : Option (List Change)) where
  abbrev run_ends : List TickEnd
  run_ends = map (end_of run.net) (ticks_of run.net (run_of run.schedule run.vectors))

  -- so many ticks were played without a fault: any fault is one of what is left, and so are the other ends and changes
  pub record TicksArePlayed (now : PlayState) (ends : List TickEnd) (log : Option (List Change)) (i : ℕ) : Type 0 where
    pub same : now.net ≡ run.net
    pub begun : now.done ≡ no_events run.net
    pub fault : schedule_fault run.net run.schedule run.vectors ≡ ticks_fault now (drop i (planned run))
    pub ended : ends ++ map (end_of run.net) (rest_of run.net now.history (map tick_of (drop i (planned run)))) ≡ run_ends
    pub changed : logged start (changes run.net run.schedule run.vectors) ≡ logged log (later_changes now (drop i (planned run)))

  -- and the next one has opened
  pub record TickIsOpen (opened : PlayState) (ends : List TickEnd) (log : Option (List Change)) (i : ℕ) : Type 0 where
    pub same : opened.net ≡ run.net
    pub begun : opened.done ≡ no_events run.net
    pub fault : schedule_fault run.net run.schedule run.vectors ≡ option_or (rounds_fault opened (rounds_at run i)) (ticks_fault (after_plans opened (rounds_at run i)) (drop (i + 1) (planned run)))
    pub ended : ends ++ end_at run.net (newest (after_plans opened (rounds_at run i)).history) (length (rounds_at run i)) ∷ map (end_of run.net) (rest_of run.net (after_plans opened (rounds_at run i)).history (map tick_of (drop (i + 1) (planned run)))) ≡ run_ends
    pub changed : logged start (changes run.net run.schedule run.vectors) ≡ logged log (tick_changes opened (rounds_at run i) ++ later_changes (after_plans opened (rounds_at run i)) (drop (i + 1) (planned run)))

  module _ (fits : IsScheduled run) (i : ℕ) (some : i < length run.vectors) where
    planned_left : drop i (planned run) ≡ (inputs_at run i, rounds_at run i) ∷ drop (i + 1) (planned run)
    planned_left = grind (arith, drop_more (planned run) i ([], []), length-zip run.vectors run.schedule.ticks, get_or-zip run.vectors run.schedule.ticks i ([], []) some)

    pub next_opens : (now : PlayState) (ends : List TickEnd) (log : Option (List Change)) → TicksArePlayed now ends log i → TickIsOpen (next_tick now (inputs_at run i)) ends log i
    next_opens now ends log before = grind (arith, planned_left, ends_of_rest run.net now (inputs_at run i, rounds_at run i) (drop (i + 1) (planned run)) before.same)

  pub first_opens : IsScheduled run → 0 < length run.vectors → TickIsOpen (first_opened run.net run.schedule (inputs_at run 0)) [] start 0
  first_opens fits some =
      let is = planned_left fits 0 some in
      record {
        same = refl;
        begun = refl;
        fault = rw is refl;
        ended = sym (rw is (ends_of_first run.net run.schedule (inputs_at run 0, rounds_at run 0) (drop 1 (planned run))));
        changed = rw is refl;
      }

  module _ (opened : PlayState) (ends : List TickEnd) (log : Option (List Change)) (i : ℕ) (ready : TickIsOpen opened ends log i) where
    pub tick_fails : (f : PlayFault) → rounds_fault opened (rounds_at run i) ≡ Some f → schedule_fault run.net run.schedule run.vectors ≡ Some f
    tick_fails f fails = ready.fault ∙ first_fails (rounds_fault opened (rounds_at run i)) (ticks_fault (after_plans opened (rounds_at run i)) (drop (i + 1) (planned run))) f fails

    begins : opened.done ≡ no_events opened.net
    begins = ready.begun ∙ ap no_events (sym ready.same)

    pub tick_played : (later : PlayState) (more : Option (List Change)) → rounds_fault opened (rounds_at run i) ≡ None → later ≡ after_plans opened (rounds_at run i) → more ≡ logged log (tick_changes opened (rounds_at run i)) →
        TicksArePlayed later (ends ++ end_at run.net (newest later.history) (length (rounds_at run i)) ∷ []) more (i + 1)
    tick_played later more none played kept =
        let after : PlayState = after_plans opened (rounds_at run i) in
        let rest : List PlannedTick = drop (i + 1) (planned run) in
        let kept_net = rounds_keep opened (rounds_at run i) begins in
        record {
          same = ap (λ (p : PlayState). p.net) played ∙ kept_net.net ∙ ready.same;
          begun = ap (λ (p : PlayState). p.done) played ∙ kept_net.begun ∙ ap no_events (kept_net.net ∙ ready.same);
          fault = ready.fault
              ∙ second_fault (rounds_fault opened (rounds_at run i)) (ticks_fault after rest) none
              ∙ ap (λ (p : PlayState). ticks_fault p rest) (sym played);
          ended = rw played (append_assoc ends (end_at run.net (newest after.history) (length (rounds_at run i)) ∷ []) (map (end_of run.net) (rest_of run.net after.history (map tick_of rest))) ∙ ready.ended);
          changed = logged_more start log more _ _ (tick_changes opened (rounds_at run i)) (later_changes later rest) (rw played refl) kept ready.changed;
        }

  -- all were played
  module _ (now : PlayState) (ends : List TickEnd) (log : Option (List Change)) (i : ℕ) (played : TicksArePlayed now ends log i) (all : length run.vectors ≤ i) where
    none_left : drop i (planned run) ≡ []
    none_left = drop_all i (planned run) (omega (arith, all, length-zip run.vectors run.schedule.ticks))

    pub whole_none : schedule_fault run.net run.schedule run.vectors ≡ None
    whole_none = played.fault ∙ ap (ticks_fault now) none_left

    pub whole_ends : ends ≡ run_ends
    whole_ends = sym (append-nil ends) ∙ (rw none_left at played.ended)

    pub whole_changes : log ≡ logged start (changes run.net run.schedule run.vectors)
    whole_changes = logged_all start log _ _ (ap (later_changes now) none_left) played.changed
