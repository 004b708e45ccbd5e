-- Two netlists of which the second's fixpoint tells as much show the same, tick by tick.
use Rattle.std.proofs.Common.{◌≡◌, ℕ, Bool, List, [], ◌∷◌, ◌++◌, map, All, refl, ap₂, sym}
use Rattle.std.proofs.lemmas.List.Elements.{All-head, All-tail}
use Rattle.cyc_base.specs.Values.{bits, EachBelow, Completes}
use Rattle.cyc_base.proofs.OrderLemmas.{EachBelow-trans, above_bits}
use Rattle.netlist.specs.declared.parts.Parts.{Parts}
use Rattle.netlist.specs.Fixpoint.{outs, next}
use Rattle.care_sets.specs.Care.{CareSet, IsCareVector}
use Rattle.schedules.specs.Moments.{History, newest}
use Rattle.schedules.specs.Runs.{Tick, Played, gates_at, outputs_at, loaded_at, played, play, vector_of, IsFairTick}
use Rattle.schedules.specs.Accepted.{FollowsFix, TellsAsMuch, SameByFixpoints}
use Rattle.schedules.proofs.RunLemmas.{Fits, outputs_above, loaded_above, fits_next, run_fits}
use Rattle.schedules.proofs.CareLemmas.{care_is_kept, runs_follow_fix}

pub same_head : {A : Type 0} (x y : A) (xs ys : List A) → x ∷ xs ≡ y ∷ ys → x ≡ y
same_head x y xs ys e = cc

pub same_tail : {A : Type 0} (x y : A) (xs ys : List A) → x ∷ xs ≡ y ∷ ys → xs ≡ ys
same_tail x y xs ys e = cc

module _ (net other : Parts) (care : CareSet) (tells : TellsAsMuch net other care) where
  -- what a tick shows, from outside
  pub record TickShowsSame (first twin : Played) : Type 0 where
    pub outputs : outputs_at net (newest first.ended) ≡ outputs_at other (newest twin.ended)
    pub loads : loaded_at net (newest first.ended) ≡ loaded_at other (newest twin.ended)

  tick_shows_same : (first twin : Played) → vector_of first ≡ vector_of twin → IsCareVector net care (vector_of first) → FollowsFix net first → Completes (outs other (bits (vector_of twin))) (outputs_at other (newest twin.ended)) → Completes (next other (bits (vector_of twin))) (loaded_at other (newest twin.ended)) → TickShowsSame first twin
  tick_shows_same first twin same vector follows outputs loads =
      let v : List Bool = vector_of first in
      let shown : EachBelow (outs net (bits v)) (bits (outputs_at other (newest twin.ended))) =
      EachBelow-trans (outs net (bits v)) (outs other (bits v)) (bits (outputs_at other (newest twin.ended))) (tells.outputs v vector) (rw same outputs) in
      let next_shown : EachBelow (next net (bits v)) (bits (loaded_at other (newest twin.ended))) =
      EachBelow-trans (next net (bits v)) (next other (bits v)) (bits (loaded_at other (newest twin.ended))) (tells.loads v vector) (rw same loads) in
      record {
        outputs = sym (above_bits (outputs_at net (newest first.ended)) (outputs_at other (newest twin.ended)) (rw (← follows.outputs) at shown));
        loads = sym (above_bits (loaded_at net (newest first.ended)) (loaded_at other (newest twin.ended)) (rw (← follows.loads) at next_shown));
      }

  -- what two plays show, from outside
  pub record PlaysSame (ticks twins : List Played) : Type 0 where
    pub outputs : map (λ (tick : Played). outputs_at net (newest tick.ended)) ticks ≡ map (λ (tick : Played). outputs_at other (newest tick.ended)) twins
    pub latches : map (λ (tick : Played). tick.latches) ticks ≡ map (λ (tick : Played). tick.latches) twins

  abbrev IsCareTick : Played → Type 0
  IsCareTick tick = IsCareVector net care (vector_of tick)

  plays_same : (window : ℕ) (h g : History) (q p s t : List Bool) (ticks twins : List Tick) → Fits other p t → q ≡ p → map (λ (tick : Tick). tick.inputs) ticks ≡ map (λ (tick : Tick). tick.inputs) twins → All IsCareTick (play net h q s ticks) → All (FollowsFix net) (play net h q s ticks) → All (IsFairTick other window) (play other g p t twins) → PlaysSame (play net h q s ticks) (play other g p t twins)
  plays_same window h g q p s t [] [] fits e inputs care_ticks follows fair = record { outputs = refl; latches = refl }
  plays_same window h g q p s t [] (twin ∷ twins) fits e inputs care_ticks follows fair = cc
  plays_same window h g q p s t (tick ∷ ticks) [] fits e inputs care_ticks follows fair = cc
  plays_same window h g q p s t (tick ∷ ticks) (twin ∷ twins) fits e inputs care_ticks follows fair =
      let first : Played = played net h q s tick in
      let rest : List Played = play net first.ended (loaded_at net (newest first.ended)) (gates_at net (newest first.ended)) ticks in
      let other_first : Played = played other g p t twin in
      let other_rest : List Played = play other other_first.ended (loaded_at other (newest other_first.ended)) (gates_at other (newest other_first.ended)) twins in
      let here : IsFairTick other window other_first = All-head (IsFairTick other window) other_first other_rest fair in
      let same : tick.inputs ++ q ≡ twin.inputs ++ p =
      ap₂ (λ i l. i ++ l) (same_head tick.inputs twin.inputs (map (λ (k : Tick). k.inputs) ticks) (map (λ (k : Tick). k.inputs) twins) inputs) e in
      let shows : TickShowsSame first other_first =
      tick_shows_same first other_first same (All-head IsCareTick first rest care_ticks) (All-head (FollowsFix net) first rest follows)
      (outputs_above other window g p t twin fits here) (loaded_above other window g p t twin fits here) in
      let later : PlaysSame rest other_rest =
      plays_same window first.ended other_first.ended
      (loaded_at net (newest first.ended)) (loaded_at other (newest other_first.ended)) (gates_at net (newest first.ended)) (gates_at other (newest other_first.ended)) ticks twins
      (fits_next other window g p t twin fits here) shows.loads
      (same_tail tick.inputs twin.inputs (map (λ (k : Tick). k.inputs) ticks) (map (λ (k : Tick). k.inputs) twins) inputs)
      (All-tail IsCareTick first rest care_ticks) (All-tail (FollowsFix net) first rest follows)
      (All-tail (IsFairTick other window) other_first other_rest fair) in
      record {
        outputs = ap₂ (λ x xs. x ∷ xs) shows.outputs later.outputs;
        latches = ap₂ (λ x xs. x ∷ xs) e later.latches;
      }

pub same_by_fixpoints : SameByFixpoints
same_by_fixpoints net other care what valid accepted interface tells =
    record {
      interface = interface;
      runs = λ run twin is within twin_is inputs latches.
          let all = plays_same net other care tells twin.window run.past twin.past run.latches twin.latches run.gates twin.gates run.ticks twin.ticks
          (run_fits other twin twin_is) latches inputs
          (care_is_kept net care what run accepted is within)
          (λ k d l. runs_follow_fix net care what run accepted is within k d l valid)
          twin_is.ticks in
          record { outputs = all.outputs; latches = all.latches };
    }
