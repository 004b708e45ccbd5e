-- Tick by tick, a run of an accepted netlist is a machine that says what the fixpoint does.
use Rattle.std.proofs.Common.{◌≡◌, Bool, List, [], ◌∷◌, ◌++◌, map, All, refl, ap, ap₂, ◌∙◌}
use Rattle.std.proofs.lemmas.List.Elements.{All-head, All-tail}
use Rattle.cyc_base.specs.Values.{bits, Completes}
use Rattle.cyc_base.proofs.OrderLemmas.{EachBelow-refl, above_bits}
use Rattle.netlist.specs.declared.parts.Parts.{Parts}
use Rattle.care_sets.specs.Care.{CareSet, IsCareVector}
use Rattle.schedules.specs.Moments.{Moment, History, newest}
use Rattle.schedules.specs.Runs.{Tick, Played, gates_at, outputs_at, loaded_at, played, play, vector_of}
use Rattle.schedules.specs.Machines.{Machine, states_over, shown_over, FitsFixpoint}
use Rattle.schedules.specs.Accepted.{FollowsFix, RunsAreMachines}
use Rattle.schedules.proofs.CareLemmas.{care_is_kept, runs_follow_fix}

same_bits : (a b : List Bool) → bits a ≡ bits b → a ≡ b
same_bits a b e = let here : Completes (bits b) a = rw e (EachBelow-refl (bits b)) in above_bits b a here

module _ (net : Parts) (care : CareSet) (machine : Machine) (fits : FitsFixpoint net care machine) where
  abbrev IsCareTick : Played → Type 0
  IsCareTick tick = IsCareVector net care (vector_of tick)

  -- what a play shows and its latches are those of the machine
  pub record PlayIsMachine (state : List Bool) (inputs : List (List Bool)) (ticks : List Played) : Type 0 where
    pub shown : map (λ (tick : Played). outputs_at net (newest tick.ended)) ticks ≡ shown_over machine state inputs
    pub states : map (λ (tick : Played). tick.latches) ticks ≡ states_over machine state inputs

  play_is_machine : (h : History) (q s : List Bool) (ticks : List Tick) → All IsCareTick (play net h q s ticks) → All (FollowsFix net) (play net h q s ticks) → PlayIsMachine q (map (λ (tick : Tick). tick.inputs) ticks) (play net h q s ticks)
  play_is_machine h q s [] counts follows = record { shown = refl; states = refl }
  play_is_machine h q s (tick ∷ ticks) counts follows =
      let first : Played = played net h q s tick in
      let last : Moment = newest first.ended in
      let rest : List Played = play net first.ended (loaded_at net last) (gates_at net last) ticks in
      let v : List Bool = tick.inputs ++ q in
      let vector : IsCareVector net care v = All-head IsCareTick first rest counts in
      let here : FollowsFix net first = All-head (FollowsFix net) first rest follows in
      let shown : outputs_at net last ≡ machine.shown v = same_bits (outputs_at net last) (machine.shown v) (here.outputs ∙ fits.outputs v vector) in
      let loads : loaded_at net last ≡ machine.loads v = same_bits (loaded_at net last) (machine.loads v) (here.loads ∙ fits.loads v vector) in
      let later : PlayIsMachine (loaded_at net last) (map (λ (k : Tick). k.inputs) ticks) rest =
      play_is_machine first.ended (loaded_at net last) (gates_at net last) ticks (All-tail IsCareTick first rest counts) (All-tail (FollowsFix net) first rest follows) in
      record {
        shown = ap₂ (λ x xs. x ∷ xs) shown (later.shown ∙ ap (λ (state : List Bool). shown_over machine state (map (λ (k : Tick). k.inputs) ticks)) loads);
        states = ap (λ xs. q ∷ xs) (later.states ∙ ap (λ (state : List Bool). states_over machine state (map (λ (k : Tick). k.inputs) ticks)) loads);
      }

pub runs_are_machines : RunsAreMachines
runs_are_machines net care what machine run valid accepted fits is within =
    let all = play_is_machine net care machine fits run.past run.latches run.gates run.ticks
    (care_is_kept net care what run accepted is within)
    (λ k d l. runs_follow_fix net care what run accepted is within k d l valid) in
    (all.shown, all.states)
