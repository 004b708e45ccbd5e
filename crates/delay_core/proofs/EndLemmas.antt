-- Whether a tick ends settled.
use Rattle.std.proofs.Common.{◌≡◌, ◌↔◌, ℕ, ◌<◌, Bool, true, false, List, [], ◌∷◌, length, map, set, get_or, All, refl, ap, sym, ◌∙◌, arith}
use Rattle.netlist.specs.Netlists.{columns}
use Rattle.delay_core.proofs.Common.{range_with_len, zip, get_or-map, ext_get_or, length-map, length-set, All-head, All-tail, length-range_with_len, get_or-range_with_len, bits, Parts, count, gate_sig, Event, Moment, History, bit_at, newest, Played, gates_at, loaded_at, played, play, RoundPlan, given_at, gate_agrees, tick_of, IsPlayedFairly}
use Rattle.std.proofs.Math.Seq.{take-append_seam}
use Rattle.std.proofs.lemmas.List.{get_or-append-add, get_or-drop, length-append, length-drop, length-take, take-set-le}
use Rattle.std.proofs.lemmas.List.Elements.{All-nil, All-cons}
use Rattle.std.proofs.lemmas.List.Sums.{AllPass-from_list_all, list_all-from_AllPass}
use Rattle.cyc_base.specs.declared.trit.Trit.{Trit}
use Rattle.cyc_base.specs.declared.trit.Trit.TheVariants.{X}
use Rattle.cyc_base.specs.Values.{bit}
use Rattle.netlist.specs.Fixpoint.{fix_gates}
use Rattle.netlist.proofs.FixpointLemmas.{length-steps}
use Rattle.schedules.specs.Moments.{Round, event_value, next_moment, after_events, after_rounds}
use Rattle.schedules.specs.Runs.{Tick, vector_of}
use Rattle.schedules.proofs.RunLemmas.{gates_reach_fix}
use Rattle.delay_core.specs.Plans.{agrees, stands_at_fix, SettledIsTold, SettlesInTime}

-- ---- what a tick keeps of a moment

set_keeps : (net : Parts) (moment : Moment) (n : ℕ) (b : Bool) → given_at net (set moment (gate_sig net n).0 b) ≡ given_at net moment
set_keeps net moment n b = take-set-le (columns net) moment (gate_sig net n).0 b (omega arith)

-- the inputs and latches, and how many signals there are
pub record SameVector (net : Parts) (before now : History) : Type 0 where
  pub given : given_at net (newest now) ≡ given_at net (newest before)
  pub width : length (newest now) ≡ length (newest before)

events_same : (net : Parts) (history : History) (events : List Event) → SameVector net history (after_events net history events)
events_same net history [] = record { given = refl; width = refl }
events_same net history (event ∷ events) =
    grind (arith, events_same net (next_moment net history event ∷ history) events, set_keeps net (newest history) event.gate (event_value net history event), length-set (newest history) (gate_sig net event.gate).0 (event_value net history event))

pub rounds_same : (net : Parts) (history : History) (rounds : List Round) → SameVector net history (after_rounds net history rounds)
rounds_same net history [] = record { given = refl; width = refl }
rounds_same net history (round ∷ rounds) = grind (arith, events_same net history round, rounds_same net (after_events net history round) rounds)

-- ---- standing at the fixpoint

known_bit : (x : Trit) (b : Bool) → agrees x b ≡ true → x ≡ bit b
known_bit x b e = grind arith

bit_agrees : (b : Bool) → agrees (bit b) b ≡ true
bit_agrees b = grind arith

module _ (net : Parts) (moment : Moment) (full : length moment ≡ count net) where
  abbrev v : List Bool
  v = given_at net moment

  abbrev fixed : List Trit
  fixed = fix_gates net (bits v)

  abbrev stands : List Bool
  stands = gates_at net moment

  given_width : length v ≡ columns net
  given_width = omega (arith, full, length-take (columns net) moment)

  gates_width : length stands ≡ length net.gates
  gates_width = omega (arith, full, length-drop (columns net) moment)

  fixed_width : length fixed ≡ length net.gates
  fixed_width = length-steps net (bits v) (length net.gates)

  -- a gate is compared by its place among the gates
  agrees_at : (n : ℕ) → gate_agrees net moment n ≡ agrees (get_or fixed n X) (get_or stands n false)
  agrees_at n = grind (arith, length-map v bit, given_width, get_or-append-add (bits v) fixed n X, get_or-drop (columns net) moment n false)

  all_agree : stands_at_fix net moment ≡ true → bits stands ≡ fixed
  all_agree e =
      ext_get_or X (bits stands) fixed
      (length-map stands bit ∙ gates_width ∙ sym fixed_width)
      (λ n l.
      let in_range : n < length net.gates = omega (arith, length-map stands bit, gates_width) in
      let at : get_or (range_with_len 0 (length net.gates)) n 0 ≡ n = get_or-range_with_len 0 (length net.gates) n 0 in_range ∙ omega arith in
      let passes : gate_agrees net moment (get_or (range_with_len 0 (length net.gates)) n 0) ≡ true =
      AllPass-from_list_all (gate_agrees net moment) (range_with_len 0 (length net.gates)) e n 0 (omega (arith, length-range_with_len 0 (length net.gates))) in
      get_or-map bit stands n false X (omega (arith, gates_width))
      ∙ sym (known_bit (get_or fixed n X) (get_or stands n false) (sym (agrees_at n) ∙ rw at at passes)))

  agree_all : bits stands ≡ fixed → stands_at_fix net moment ≡ true
  agree_all e =
      list_all-from_AllPass (gate_agrees net moment) (range_with_len 0 (length net.gates))
      (λ k d l.
      let in_range : k < length net.gates = omega (arith, length-range_with_len 0 (length net.gates)) in
      let at : get_or (range_with_len 0 (length net.gates)) k d ≡ k = get_or-range_with_len 0 (length net.gates) k d in_range ∙ omega arith in
      let known : get_or fixed k X ≡ bit (get_or stands k false) =
      ap (λ (xs : List Trit). get_or xs k X) (sym e) ∙ get_or-map bit stands k false X (omega (arith, gates_width)) in
      ap (gate_agrees net moment) at
      ∙ agrees_at k
      ∙ ap (λ (x : Trit). agrees x (get_or stands k false)) known
      ∙ bit_agrees (get_or stands k false))

  pub stands_told : (stands_at_fix net moment ≡ true) ↔ (bits (gates_at net moment) ≡ fix_gates net (bits (given_at net moment)))
  stands_told = (all_agree, agree_all)

-- ---- the ticks of a run

-- the widths with which a tick starts
pub record Fits (net : Parts) (q s : List Bool) : Type 0 where
  pub latches : length q ≡ length net.latches
  pub gates : length s ≡ length net.gates

module _ (net : Parts) (h : History) (q s : List Bool) (tick : Tick) (fits : Fits net q s) (inputs : length tick.inputs ≡ length net.inputs) where
  abbrev first : Played
  first = played net h q s tick

  vector_width : length (vector_of first) ≡ columns net
  vector_width = omega (arith, length-append tick.inputs q, inputs, fits.latches)

  same : SameVector net first.opened first.ended
  same = rounds_same net first.opened tick.rounds

  last_width : length (newest first.ended) ≡ count net
  last_width = omega (arith, same.width, length-append (vector_of first) s, vector_width, fits.gates)

  last_given : given_at net (newest first.ended) ≡ vector_of first
  last_given = same.given ∙ rw (← vector_width) (take-append_seam (vector_of first) s)

  tick_told : SettledIsTold net first
  tick_told = rw last_given at (stands_told net (newest first.ended) last_width)

  tick_in_time : (window : ℕ) → IsPlayedFairly net window first → SettlesInTime net window first
  tick_in_time window fair long known =
      tick_told.1 (gates_reach_fix net window (vector_of first) s h tick.rounds vector_width fits.gates fair long known)

  fits_next : Fits net (loaded_at net (newest first.ended)) (gates_at net (newest first.ended))
  fits_next =
      record {
        latches = length-map net.latches (λ latch. bit_at (newest first.ended) latch.from);
        gates = omega (arith, last_width, length-drop (columns net) (newest first.ended));
      }

abbrev pub HasInputs : Parts → Tick → Type 0
HasInputs net tick = length tick.inputs ≡ length net.inputs

pub ticks_told : (net : Parts) (h : History) (q s : List Bool) (ticks : List Tick) → Fits net q s → All (HasInputs net) ticks → All (SettledIsTold net) (play net h q s ticks)
ticks_told net h q s [] fits inputs = All-nil (SettledIsTold net)
ticks_told net h q s (tick ∷ ticks) fits inputs =
    let start : Played = played net h q s tick in
    let rest : List Played = play net start.ended (loaded_at net (newest start.ended)) (gates_at net (newest start.ended)) ticks in
    grind (arith, All-head (HasInputs net) tick ticks inputs, All-cons (SettledIsTold net) start rest, tick_told net h q s tick, ticks_told net start.ended (loaded_at net (newest start.ended)) (gates_at net (newest start.ended)) ticks, fits_next net h q s tick, All-tail (HasInputs net) tick ticks inputs)

pub ticks_in_time : (net : Parts) (window : ℕ) (h : History) (q s : List Bool) (ticks : List Tick) → Fits net q s → All (HasInputs net) ticks → All (IsPlayedFairly net window) (play net h q s ticks) → All (SettlesInTime net window) (play net h q s ticks)
ticks_in_time net window h q s [] fits inputs fair = All-nil (SettlesInTime net window)
ticks_in_time net window h q s (tick ∷ ticks) fits inputs fair =
    let here = All-head (HasInputs net) tick ticks inputs in
    let start : Played = played net h q s tick in
    let rest : List Played = play net start.ended (loaded_at net (newest start.ended)) (gates_at net (newest start.ended)) ticks in
    All-cons (SettlesInTime net window) start rest
    (tick_in_time net h q s tick fits here window (All-head (IsPlayedFairly net window) start rest fair))
    (ticks_in_time net window start.ended (loaded_at net (newest start.ended)) (gates_at net (newest start.ended)) ticks
    (fits_next net h q s tick fits here) (All-tail (HasInputs net) tick ticks inputs) (All-tail (IsPlayedFairly net window) start rest fair))

-- the ticks of a schedule have the vectors' inputs
pub inputs_fit : (net : Parts) (vectors : List (List Bool)) (plans : List (List RoundPlan)) → All (λ (inputs : List Bool). length inputs ≡ length net.inputs) vectors → All (HasInputs net) (map tick_of (zip vectors plans))
inputs_fit net [] plans fit = All-nil (HasInputs net)
inputs_fit net (inputs ∷ vectors) [] fit = All-nil (HasInputs net)
inputs_fit net (inputs ∷ vectors) (plan ∷ plans) fit =
    All-cons (HasInputs net) (tick_of (inputs, plan)) (map tick_of (zip vectors plans))
    (All-head (λ (i : List Bool). length i ≡ length net.inputs) inputs vectors fit)
    (inputs_fit net vectors plans (All-tail (λ (i : List Bool). length i ≡ length net.inputs) inputs vectors fit))
