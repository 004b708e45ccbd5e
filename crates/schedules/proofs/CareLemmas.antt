-- Tick by tick, an accepted netlist stays within its care vectors, and what is observed settles.
use Rattle.std.proofs.Common.{◌≡◌, ◌≢◌, ℕ, Bool, true, List, [], ◌∷◌, ◌++◌, length, map, get_or, All, refl, ap, ap₂, sym, ◌∙◌, arith}
use Rattle.std.proofs.lemmas.List.{length-append, drop_at, get_or_append_left}
use Rattle.std.proofs.lemmas.List.Elements.{All-nil, All-head, All-tail, All-cons}
use Rattle.cyc_base.specs.declared.sig.Sig.{Sig}
use Rattle.cyc_base.specs.declared.trit.Trit.{Trit}
use Rattle.cyc_base.specs.declared.trit.Trit.TheVariants.{X}
use Rattle.cyc_base.specs.Values.{bit, bits, Completes}
use Rattle.cyc_base.proofs.OrderLemmas.{Completes-at, above_bits}
use Rattle.netlist.specs.declared.parts.Parts.{Parts}
use Rattle.netlist.specs.Netlists.{IsNetlist}
use Rattle.netlist.specs.Fixpoint.{wire, fix}
use Rattle.care_sets.specs.Care.{CareSet, is_in_invariant, is_allowed, IsCareVector}
use Rattle.refusals.specs.declared.observe.Observe.{Observe}
use Rattle.refusals.specs.declared.observe.Observe.TheVariants as observe
use Rattle.refusals.specs.Acceptance.{Accepts, observed, AreDetermined}
use Rattle.schedules.specs.Moments.{Moment, History, bit_at, moment_at, newest}
use Rattle.schedules.specs.Runs.{Tick, Run, Played, gates_at, loaded_at, played, play, ticks_of, vector_of, IsFairTick, IsRun}
use Rattle.schedules.specs.Settling.{IsAllowedAt, IsWithinCare}
use Rattle.schedules.specs.Accepted.{CareIsKept, ObservedSettle, RunsFollowFix, FollowsFix}
use Rattle.refusals.proofs.ObservedLemmas.{all_is_more}
use Rattle.schedules.proofs.RunLemmas.{known_above, Fits, vector_width, loads_above, fits_next, last_above, run_fits, netlists_settle}

-- signals that are known have their values at each moment above
pub signals_stand : (values : List Trit) (moment : Moment) (signals : List Sig) → Completes values moment → All (λ s. wire values s ≢ X) signals → All (λ s. bit (bit_at moment s) ≡ wire values s) signals
signals_stand values moment signals above known k d l =
    known_above (wire values (get_or signals k d)) (bit_at moment (get_or signals k d))
    (Completes-at values moment (get_or signals k d).0 above) (known k d l)

pub signals_read : (values : List Trit) (moment : Moment) (signals : List Sig) → All (λ s. bit (bit_at moment s) ≡ wire values s) signals → bits (map (bit_at moment) signals) ≡ map (wire values) signals
signals_read values moment [] h = refl
signals_read values moment (s ∷ signals) h =
    ap₂ (λ x xs. x ∷ xs) (All-head (λ s. bit (bit_at moment s) ≡ wire values s) s signals h)
    (signals_read values moment signals (All-tail (λ s. bit (bit_at moment s) ≡ wire values s) s signals h))

-- the outputs are determined, whatever is observed
outputs_observed : (net : Parts) (care : CareSet) (v : List Bool) → Accepts net care observe.Outputs → IsCareVector net care v → AreDetermined net v net.outputs
outputs_observed net care v accepted vector k d l =
    let sources : List Sig = map (λ latch. latch.from) net.latches in
    let here : get_or (net.outputs ++ sources) k d ≡ get_or net.outputs k d = get_or_append_left net.outputs sources d k l in
    rw here at (accepted.determined v vector k d (omega (arith, length-append net.outputs sources)))

pub outputs_known : (net : Parts) (care : CareSet) (what : Observe) (v : List Bool) → IsNetlist net → Accepts net care what → IsCareVector net care v → AreDetermined net v net.outputs
outputs_known net care observe.All v valid accepted vector = outputs_observed net care v (all_is_more net care observe.Outputs valid accepted) vector
outputs_known net care observe.Outputs v valid accepted vector = outputs_observed net care v accepted vector

module _ (net : Parts) (care : CareSet) (what : Observe) (accepted : Accepts net care what) where
  -- where a moment is above the fixpoint of a care vector, the latches load the next state there
  loads_state : (v : List Bool) (vector : IsCareVector net care v) (moment : Moment) → Completes (fix net (bits v)) moment → loaded_at net moment ≡ (accepted.closed v vector).state
  loads_state v vector moment above =
      let after = accepted.closed v vector in
      let loads : Completes (bits after.state) (loaded_at net moment) =
      rw after.is at (loads_above (fix net (bits v)) moment net.latches above) in
      above_bits after.state (loaded_at net moment) loads

  -- and all that it shows is what the fixpoint says
  pub follows_fix : IsNetlist net → (tick : Played) → IsCareVector net care (vector_of tick) → Completes (fix net (bits (vector_of tick))) (newest tick.ended) → FollowsFix net tick
  follows_fix valid tick vector above =
      let v : List Bool = vector_of tick in
      record {
        outputs = signals_read (fix net (bits v)) (newest tick.ended) net.outputs
            (signals_stand (fix net (bits v)) (newest tick.ended) net.outputs above (outputs_known net care what v valid accepted vector));
        loads = ap bits (loads_state v vector (newest tick.ended) above) ∙ sym (accepted.closed v vector).is;
      }

  abbrev pub IsCareTick : Played → Type 0
  IsCareTick tick = IsCareVector net care (vector_of tick)

  vector_counts : (q s : List Bool) (tick : Tick) → length tick.inputs ≡ length net.inputs → Fits net q s → is_in_invariant care q ≡ true → is_allowed care (tick.inputs ++ q) ≡ true → IsCareVector net care (tick.inputs ++ q)
  vector_counts q s tick e fits inside allowed =
      record {
        width = vector_width net q s tick e fits;
        state = ap (is_in_invariant care) (drop_at tick.inputs q (length net.inputs) e) ∙ inside;
        allowed = allowed;
      }

  play_counts : (window : ℕ) (h : History) (q s : List Bool) (ticks : List Tick) → Fits net q s → is_in_invariant care q ≡ true → All (IsFairTick net window) (play net h q s ticks) → All (IsAllowedAt care) (play net h q s ticks) → All IsCareTick (play net h q s ticks)
  play_counts window h q s [] fits inside fair allowed = All-nil IsCareTick
  play_counts window h q s (tick ∷ ticks) fits inside fair allowed =
      let first : Played = played net h q s tick in
      let last : Moment = newest first.ended in
      let rest : List Played = play net first.ended (loaded_at net last) (gates_at net last) ticks in
      let here : IsFairTick net window first = All-head (IsFairTick net window) first rest fair in
      let vector : IsCareTick first =
      vector_counts q s tick here.inputs fits inside (All-head (IsAllowedAt care) first rest allowed) in
      let kept : is_in_invariant care (loaded_at net last) ≡ true =
      ap (is_in_invariant care) (loads_state (tick.inputs ++ q) vector last (last_above net window h q s tick fits here))
      ∙ (accepted.closed (tick.inputs ++ q) vector).inside in
      All-cons IsCareTick first rest vector
      (play_counts window first.ended (loaded_at net last) (gates_at net last) ticks
      (fits_next net window h q s tick fits here) kept
      (All-tail (IsFairTick net window) first rest fair) (All-tail (IsAllowedAt care) first rest allowed))

pub care_is_kept : CareIsKept
care_is_kept net care what run accepted is within =
    play_counts net care what accepted run.window run.past run.latches run.gates run.ticks (run_fits net run is)
    (accepted.initial run.latches is.latches) is.ticks within

pub observed_settle : ObservedSettle
observed_settle net care what run accepted is within k d l age n =
    let tick : Played = get_or (ticks_of net run) k d in
    signals_stand (fix net (bits (vector_of tick))) (moment_at tick.ended age) (observed net what)
    (netlists_settle net care run is within k d l age n)
    (accepted.determined (vector_of tick) (care_is_kept net care what run accepted is within k d l))

-- the last moment of each tick is above the fixpoint
pub ends_above : (net : Parts) (care : CareSet) (run : Run) → IsRun net run → IsWithinCare net care run → All (λ tick. Completes (fix net (bits (vector_of tick))) (newest tick.ended)) (ticks_of net run)
ends_above net care run is within k d l = netlists_settle net care run is within k d l 0 (omega arith)

pub runs_follow_fix : RunsFollowFix
runs_follow_fix net care what run accepted is within k d l valid =
    follows_fix net care what accepted valid (get_or (ticks_of net run) k d)
    (care_is_kept net care what run accepted is within k d l) (ends_above net care run is within k d l)
