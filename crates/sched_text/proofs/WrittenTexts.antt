-- The lines of a schedule, as they are appended.
use Rattle.std.proofs.Common.{◌≡◌, ℕ, List, [], ◌∷◌, ◌++◌, refl, ap, append_assoc, append-nil, arith}
use Rattle.sched_text.proofs.Common.{codes, decimal, flat_map, Parts, gate_at, PlannedEvent, RoundPlan, Schedule, line_text, event_line, round_lines, tick_lines, event_text, round_text, tick_text}
use Rattle.std.proofs.lemmas.List.Concat.{flat_map-append}
use Rattle.std.proofs.lemmas.List.Folds.{flat_map-map}
use Rattle.sched_text.specs.Written.{head_lines, written}
use Rattle.sched_text.specs.Putting.{ages_text, ticks_text, head_text}

pub window_is : (window : ℕ) → line_text (codes "window" ∷ decimal window ∷ []) ≡ codes "window " ++ (decimal window ++ codes "\n")
window_is window = ap (λ l. codes "window " ++ (l ++ codes "\n")) (append-nil (decimal window))

pub event_is : (net : Parts) (planned : PlannedEvent)
    → event_text net planned ≡ (codes "e " ++ (gate_at net planned.event.gate).name) ++ (ages_text planned.event.ages ++ codes "\n")
event_is net planned = grind (arith, flat_map-map, append_assoc)

-- ---- the whole text

texts_of : {X : Type 0} (f : X → List (List (List ℕ))) (g : X → List ℕ) (xs : List X) → ((x : X) → flat_map line_text (f x) ≡ g x) → flat_map line_text (flat_map f xs) ≡ flat_map g xs
texts_of f g [] same = refl
texts_of f g (x ∷ xs) same = grind (arith, flat_map-append, texts_of f g xs same)

round_is : (net : Parts) (round : RoundPlan) → flat_map line_text (round_lines net round) ≡ round_text net round
round_is net round = ap (λ l. codes "round\n" ++ l) (flat_map-map line_text (event_line net) round.events)

tick_is : (net : Parts) (rounds : List RoundPlan) → flat_map line_text (tick_lines net rounds) ≡ tick_text net rounds
tick_is net rounds = ap (λ l. codes "tick\n" ++ l) (texts_of (round_lines net) (round_text net) rounds (round_is net))

pub head_is : (schedule : Schedule) → flat_map line_text (head_lines schedule) ≡ head_text schedule
head_is schedule = grind (arith, flat_map-append, flat_map-map, append-nil)

pub written_is : (net : Parts) (schedule : Schedule) → written net schedule ≡ head_text schedule ++ ticks_text net schedule.ticks
written_is net schedule = grind (arith, flat_map-append line_text (head_lines schedule) (flat_map (tick_lines net) schedule.ticks), head_is schedule, texts_of (tick_lines net) (tick_text net) schedule.ticks (tick_is net), tick_is net)
