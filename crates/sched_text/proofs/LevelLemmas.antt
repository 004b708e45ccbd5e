-- What holds of each line of the ticks of a schedule, level by level: events, rounds, ticks.
use Rattle.std.proofs.Common.{ℕ, List, [], ◌∷◌, length, map, get_or, All, arith}
use Rattle.sched_text.proofs.Common.{codes, flat_map, All-head, All-tail, All-nil, All-cons, Parts, PlannedEvent, RoundPlan, IsOfGates, HasSmallAges, event_line, round_lines, tick_lines}
use Rattle.std.proofs.lemmas.List.Elements.{All-append, All-map}

-- the event is of one of the gates, and its ages are numbers of 32 bits
abbrev pub IsWritable : Parts → PlannedEvent → Type 0
IsWritable net planned = IsOfGates (length net.gates) planned × HasSmallAges planned

abbrev pub AreWritable : Parts → RoundPlan → Type 0
AreWritable net round = All (IsWritable net) round.events

pub All-flat_map : {X Y : Type 0} (P : Y → Type 0) (f : X → List Y) (xs : List X) → All (λ x. All P (f x)) xs → All P (flat_map f xs)
All-flat_map P f [] each = All-nil P
All-flat_map P f (x ∷ xs) each =
    All-append P (f x) (flat_map f xs) (All-head (λ x. All P (f x)) x xs each) (All-flat_map P f xs (All-tail (λ x. All P (f x)) x xs each))

module _ (net : Parts) (P : List (List ℕ) → Type 0) (tick : P (codes "tick" ∷ [])) (round : P (codes "round" ∷ [])) (event : (p : PlannedEvent) → IsWritable net p → P (event_line net p)) where
  round_each : (plan : RoundPlan) → AreWritable net plan → All P (round_lines net plan)
  round_each plan good = grind (arith, All-cons P (codes "round" ∷ []) (map (event_line net) plan.events) round, All-map P (event_line net) plan.events)

  pub ticks_each : (ticks : List (List RoundPlan)) → All (All (AreWritable net)) ticks → All P (flat_map (tick_lines net) ticks)
  ticks_each ticks good =
      All-flat_map P (tick_lines net) ticks
      (λ k d l. All-cons P (codes "tick" ∷ []) (flat_map (round_lines net) (get_or ticks k d)) tick
      (All-flat_map P (round_lines net) (get_or ticks k d) (λ i r m. round_each (get_or (get_or ticks k d) i r) (good k d l i r m))))
