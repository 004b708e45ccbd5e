-- The changes that were told give each signal its value.
use Rattle.std.proofs.Common.{◌≡◌, ◌≢◌, ◌<◌, ◌≤◌, ◌+◌, ◌-◌, ◌==◌, ◌&&◌, ◌||◌, ℕ, zero, suc, Bool, true, false, List, [], ◌∷◌, ◌++◌, length, reverse, drop, get_or, set, All, Some, None, Option, inl, inr, refl, ap, sym, ◌∙◌, arith}
use Rattle.std.specs.Prelude.{if◌then◌else◌}
use Rattle.std.specs.List.{zip, fold, filter_map, cons_option, range_with_len}
use Rattle.std.proofs.lemmas.Bool.{cases_lt, cases_eq, cases_Bool, le-ltb, eq-eqb, ne_eqb, and_cases, ltb-false}
use Rattle.std.proofs.lemmas.List.{append_assoc, append-nil, length-append, length-reverse, length-drop, length-set, length-map, get_or-set_same, get_or-set_other, get_or-append_right, get_or-drop}
use Rattle.std.proofs.lemmas.List.Sums.{fold-append}
use Rattle.cyc_base.specs.declared.sig.Sig.{Sig}
use Rattle.netlist.specs.declared.parts.Parts.{Parts}
use Rattle.netlist.specs.Netlists.{count, signal, gate_sig}
use Rattle.netlist.specs.Fixpoint.{wires}
use Rattle.schedules.specs.Moments.{History, Moment, bit_at, newest, event_value}
use Rattle.schedules.specs.Runs.{gates_at, loaded_at}
use Rattle.delay_core.specs.declared.change.Change.{Change}
use Rattle.delay_core.specs.declared.plan.PlannedEvent.{PlannedEvent}
use Rattle.delay_core.specs.declared.plan.RoundPlan.{RoundPlan}
use Rattle.delay_core.specs.declared.plan.Schedule.{Schedule}
use Rattle.delay_core.specs.Plays.{PlayState, moment_of_number, differ, is_given, place, change_to, change_by, after_event, starting, next_tick}
use Rattle.delay_core.specs.Plans.{after_planned, after_plan, after_plans, first_opened}
use Rattle.delay_core.specs.Changes.{openings, event_changes, round_changes, tick_changes, later_changes, changes}
use Rattle.probes.specs.Values.{value_after, last_value, after_ticks, moment_of_run, ChangesTellValues}
use Rattle.delay_core.proofs.ChangeLemmas.{option_first}

-- ---- one change

told_early : (s : Sig) (at : ℕ) (seen : Option Bool) (c : Change) → at < c.at → value_after s at seen c ≡ seen
told_early s at seen c early = grind arith

told_other : (s : Sig) (at : ℕ) (seen : Option Bool) (c : Change) → c.sig.0 ≢ s.0 → value_after s at seen c ≡ seen
told_other s at seen c other = rw (ne_eqb c.sig.0 s.0 other) refl

told_here : (s : Sig) (at : ℕ) (seen : Option Bool) (c : Change) → c.sig.0 ≡ s.0 → c.at ≤ at → value_after s at seen c ≡ Some c.value
told_here s at seen c same late = rw (eq-eqb c.sig.0 s.0 same, le-ltb at c.at late) refl

-- ---- changes that are picked from numbers

module _ (p : ℕ → Bool) (change : ℕ → Change) (f : Option Bool → Change → Option Bool) where
  abbrev pick : ℕ → Option Change
  pick n = if p n then Some (change n) else None

  picked : (seen : Option Bool) (n : ℕ) (rest : List Change) → fold f seen (cons_option (pick n) rest) ≡ fold f (if p n then f seen (change n) else seen) rest
  picked seen n rest = elim (cases_Bool (p n)) [ inl is ↦ rw is refl | inr isnt ↦ rw isnt refl ]

  skipped : (seen : Option Bool) (n : ℕ) → f seen (change n) ≡ seen → (if p n then f seen (change n) else seen) ≡ seen
  skipped seen n skip = elim (cases_Bool (p n)) [ inl is ↦ rw is skip | inr isnt ↦ rw isnt refl ]

  pub none_picked : (seen : Option Bool) (ns : List ℕ) → ((n : ℕ) → f seen (change n) ≡ seen) → fold f seen (filter_map pick ns) ≡ seen
  none_picked seen [] skip = refl
  none_picked seen (n ∷ ns) skip = grind (arith, picked seen n (filter_map pick ns), skipped seen n (skip n), none_picked seen ns skip)

  none_below : (seen : Option Bool) (k a n : ℕ) → ((i : ℕ) → i ≢ k → f seen (change i) ≡ seen) → k < a → fold f seen (filter_map pick (range_with_len a n)) ≡ seen
  none_below seen k a zero skip below = refl
  none_below seen k a (suc n) skip below = grind (arith, picked seen a (filter_map pick (range_with_len (a + 1) n)), skipped seen a, none_below seen k (a + 1) n skip)

  pub one_picked : (value : Option Bool) (k : ℕ) (seen : Option Bool) (a n j : ℕ) → ((x : Option Bool) (i : ℕ) → i ≢ k → f x (change i) ≡ x) → f seen (change k) ≡ value → a + j ≡ k → j < n →
      fold f seen (filter_map pick (range_with_len a n)) ≡ (if p k then value else seen)
  one_picked value k seen a zero j skip here e short = absurd (omega (arith, short))
  one_picked value k seen a (suc n) zero skip here e short =
      let rest : List Change = filter_map pick (range_with_len (a + 1) n) in
      grind (arith, picked seen a rest, none_below (if p a then f seen (change a) else seen) k (a + 1) n (skip (if p a then f seen (change a) else seen)))
  one_picked value k seen a (suc n) (suc j) skip here e short = grind (arith, picked seen a (filter_map pick (range_with_len (a + 1) n)), skipped seen a, one_picked value k seen (a + 1) n j skip here)

-- ---- one more moment

pub record TellsOf (net : Parts) (past : ℕ) (history : History) (told : List Change) : Type 0 where
  pub begun : past < length history
  pub width : length (newest history) ≡ count net
  pub tells : (s : Sig) (at : ℕ) → s.0 < count net → last_value told s at ≡ Some (bit_at (moment_of_number history (suc past + at)) s)

-- a longer history has the same moment of a number
moment_stays : (history : History) (m : Moment) (n : ℕ) → n ≤ length history → moment_of_number (m ∷ history) n ≡ moment_of_number history n
moment_stays history m n there = grind arith

moment_newest : (history : History) (n : ℕ) → length history ≤ n → moment_of_number history n ≡ newest history
moment_newest history n far = ap (λ (k : ℕ). get_or history k []) (omega (arith, far))

module _ (net : Parts) (past : ℕ) (history : History) (told : List Change) (before : TellsOf net past history told) (m : Moment) (more : List Change) where
  pub tells_more : length m ≡ count net →
      ((s : Sig) (at : ℕ) (seen : Option Bool) → at < length history - past → fold (value_after s at) seen more ≡ seen) →
      ((s : Sig) (at : ℕ) → s.0 < count net → length history - past ≤ at → fold (value_after s at) (Some (bit_at (newest history) s)) more ≡ Some (bit_at m s)) →
      TellsOf net past (m ∷ history) (told ++ more)
  tells_more wide early late = record {
    begun = omega (arith, before.begun);
    width = wide;
    tells = λ s at short.
        fold-append (value_after s at) None told more
        ∙ elim (cases_lt at (length history - past)) [
          | inl sooner ↦
              early s at (last_value told s at) sooner
              ∙ before.tells s at short
              ∙ ap (λ (moment : Moment). Some (bit_at moment s)) (sym (moment_stays history m (suc past + at) (omega (arith, sooner))))
          | inr later ↦
              ap (λ (x : Option Bool). fold (value_after s at) x more)
              (before.tells s at short ∙ ap (λ (moment : Moment). Some (bit_at moment s)) (moment_newest history (suc past + at) (omega (arith, later))))
              ∙ late s at short later
              ∙ ap (λ (moment : Moment). Some (bit_at moment s)) (sym (moment_newest (m ∷ history) (suc past + at) (omega (arith, later))))
        ];
  }

undiffer : (a b : Bool) → differ a b ≡ false → a ≡ b
undiffer a b e = grind arith

or_right_false : (x y : Bool) → (x || y) ≡ false → y ≡ false
or_right_false x y e = grind arith

-- ---- an event

module _ (play : PlayState) (told : List Change) (before : TellsOf play.net play.past play.history told) (gate : ℕ) (value : Bool) where
  abbrev old : Moment
  old = newest play.history

  abbrev driven : Sig
  driven = gate_sig play.net gate

  abbrev after : Moment
  after = set old driven.0 value

  abbrev made : Change
  made = record { at = place play (suc (length play.history)); tick = play.tick; round = length play.starts; sig = driven; value = value }

  wide : length after ≡ count play.net
  wide = length-set old driven.0 value ∙ before.width

  own_bit : (s : Sig) → s.0 < count play.net → s.0 ≡ driven.0 → bit_at after s ≡ value
  own_bit s short same = rw same (get_or-set_same old driven.0 value false (omega (arith, short, same, before.width)))

  other_bit : (s : Sig) → s.0 ≢ driven.0 → bit_at after s ≡ bit_at old s
  other_bit s other = get_or-set_other old driven.0 s.0 value false other

  changed : differ (bit_at old driven) value ≡ true → change_to play gate value ≡ Some made
  changed is = rw is refl

  unchanged : differ (bit_at old driven) value ≡ false → change_to play gate value ≡ None
  unchanged isnt = rw isnt refl

  pub event_tells : TellsOf play.net play.past (after ∷ play.history) (told ++ cons_option (change_to play gate value) [])
  event_tells =
      elim (cases_Bool (differ (bit_at old driven) value)) [
        | inl is ↦
            rw (changed is)
            (tells_more play.net play.past play.history told before after (made ∷ []) wide
            (λ s at seen sooner. told_early s at seen made (omega (arith, sooner, before.begun)))
            (λ s at short later. elim (cases_eq s.0 driven.0) [
              | inl same ↦ told_here s at (Some (bit_at old s)) made (sym same) (omega (arith, later)) ∙ ap (λ (b : Bool). Some b) (sym (own_bit s short same))
              | inr other ↦ told_other s at (Some (bit_at old s)) made (λ e. other (sym e)) ∙ ap (λ (b : Bool). Some b) (sym (other_bit s other))
            ]))
        | inr isnt ↦
            rw (unchanged isnt)
            (tells_more play.net play.past play.history told before after [] wide
            (λ s at seen sooner. refl)
            (λ s at short later. elim (cases_eq s.0 driven.0) [
              | inl same ↦ ap (λ (b : Bool). Some b) (ap (λ (n : ℕ). get_or old n false) same ∙ undiffer (bit_at old driven) value isnt ∙ sym (own_bit s short same))
              | inr other ↦ ap (λ (b : Bool). Some b) (sym (other_bit s other))
            ]))
      ]

-- ---- an opening

-- what an opening tells at any seen value, where it is at this moment and these values stand in it
module _ (play : PlayState) (m : Moment) (at_opening : moment_of_number play.history play.opening ≡ m) where
  abbrev told_at : ℕ → Bool
  told_at n =
      play.tick == 1 || (is_given play.net (signal n) && differ (bit_at (moment_of_number play.history (play.opening - 1)) (signal n)) (bit_at (moment_of_number play.history play.opening) (signal n)))

  abbrev opening_at : ℕ → Change
  opening_at n = record {
    at = place play play.opening;
    tick = play.tick;
    round = 0;
    sig = signal n;
    value = bit_at (moment_of_number play.history play.opening) (signal n);
  }

  pub openings_early : (s : Sig) (at : ℕ) (seen : Option Bool) → at < place play play.opening → fold (value_after s at) seen (openings play) ≡ seen
  openings_early s at seen early = grind (arith, none_picked told_at opening_at (value_after s at) seen (range_with_len 0 (count play.net)), told_early s)

  pub openings_late : (s : Sig) (at : ℕ) (seen : Option Bool) → s.0 < count play.net → place play play.opening ≤ at →
      fold (value_after s at) seen (openings play) ≡ (if told_at s.0 then Some (bit_at m s) else seen)
  openings_late s at seen short late =
      one_picked told_at opening_at (value_after s at) (Some (bit_at m s)) s.0 seen 0 (count play.net) s.0
      (λ x i other. told_other s at x (opening_at i) other)
      (told_here s at seen (opening_at s.0) refl late ∙ ap (λ (moment : Moment). Some (bit_at moment s)) at_opening)
      (omega arith) short

module _ (play : PlayState) (told : List Change) (before : TellsOf play.net play.past play.history told) (inputs : List Bool) (fit : length inputs ≡ length play.net.inputs) where
  abbrev opened : PlayState
  opened = next_tick play inputs

  abbrev columns_of : ℕ
  columns_of = length play.net.inputs + length play.net.latches

  abbrev vector : List Bool
  vector = inputs ++ loaded_at play.net (newest play.history)

  abbrev first : Moment
  first = wires vector (gates_at play.net (newest play.history))

  vector_wide : length vector ≡ columns_of
  vector_wide = length-append inputs (loaded_at play.net (newest play.history)) ∙ omega (arith, fit, length-map play.net.latches (λ latch. bit_at (newest play.history) latch.from))

  first_wide : length first ≡ count play.net
  first_wide = length-append vector (gates_at play.net (newest play.history)) ∙ omega (arith, vector_wide, length-drop columns_of (newest play.history), before.width)

  at_first : moment_of_number opened.history opened.opening ≡ first
  at_first = moment_newest (first ∷ play.history) (suc (length play.history)) (omega arith)

  at_last : moment_of_number opened.history (opened.opening - 1) ≡ newest play.history
  at_last = grind arith

  gate_stays : (s : Sig) → columns_of ≤ s.0 → bit_at first s ≡ bit_at (newest play.history) s
  gate_stays s far =
      get_or-append_right vector (drop columns_of (newest play.history)) columns_of s.0 false vector_wide far
      ∙ get_or-drop columns_of (newest play.history) (s.0 - columns_of) false
      ∙ ap (λ (n : ℕ). get_or (newest play.history) n false) (omega (arith, far))

  stays : (s : Sig) → told_at opened first at_first s.0 ≡ false → bit_at (newest play.history) s ≡ bit_at first s
  stays s silent =
      let given : Bool = is_given play.net s in
      let was : Bool = bit_at (moment_of_number opened.history (opened.opening - 1)) s in
      let is : Bool = bit_at (moment_of_number opened.history opened.opening) s in
      grind (arith, and_cases given (differ was is) (or_right_false (opened.tick == 1) (given && differ was is) silent), or_right_false (opened.tick == 1) (given && differ was is) silent, gate_stays s, ltb-false s.0 columns_of, at_last, undiffer was is, at_first)

  pub opening_tells : TellsOf play.net play.past (first ∷ play.history) (told ++ openings opened)
  opening_tells = grind (arith, tells_more play.net play.past play.history told before first (openings opened) first_wide, first_wide, openings_early opened first at_first, at_first, openings_late opened first at_first, cases_Bool, stays)

pub start_tells : (net : Parts) (window : ℕ) (past : History) (v gates : List Bool) → length v ≡ length net.inputs + length net.latches → length gates ≡ length net.gates →
    TellsOf net (length past) (wires v gates ∷ past) (openings (starting net window past v gates))
start_tells net window past v gates fit gates_fit =
    let play : PlayState = starting net window past v gates in
    let m : Moment = wires v gates in
    let opening : moment_of_number play.history play.opening ≡ m = moment_newest (m ∷ past) (suc (length past)) (omega arith) in
    record {
      begun = omega arith;
      width = length-append v gates ∙ omega (arith, fit, gates_fit);
      tells = λ s at short.
          openings_late play m opening s at None short (omega arith)
          ∙ ap (λ (moment : Moment). Some (bit_at moment s)) (sym (moment_newest (m ∷ past) (suc (length past) + at) (omega arith)));
    }

-- ---- a whole run

pub record PlayTells (net : Parts) (past : ℕ) (play : PlayState) (told : List Change) : Type 0 where
  pub same_net : play.net ≡ net
  pub same_past : play.past ≡ past
  pub of_play : TellsOf play.net play.past play.history told

pub events_tell : (net : Parts) (past : ℕ) (play : PlayState) (told : List Change) (events : List PlannedEvent) → PlayTells net past play told → PlayTells net past (after_planned play events) (told ++ event_changes play events)
events_tell net past play told [] before = rw (append-nil told) before
events_tell net past play told (planned ∷ later) before =
    let e = planned.event in
    let next : PlayTells net past (after_event play e) (told ++ cons_option (change_by play e) []) =
    record {
      same_net = before.same_net;
      same_past = before.same_past;
      of_play = event_tells play told before.of_play e.gate (event_value play.net play.history e);
    } in
    let joined : (told ++ cons_option (change_by play e) []) ++ event_changes (after_event play e) later ≡ told ++ event_changes play (planned ∷ later) =
    append_assoc told (cons_option (change_by play e) []) (event_changes (after_event play e) later)
    ∙ ap (λ (cs : List Change). told ++ cs) (sym (option_first (change_by play e) (event_changes (after_event play e) later))) in
    rw joined at (events_tell net past (after_event play e) (told ++ cons_option (change_by play e) []) later next)

pub rounds_tell : (net : Parts) (past : ℕ) (play : PlayState) (told : List Change) (rounds : List RoundPlan) → PlayTells net past play told → PlayTells net past (after_plans play rounds) (told ++ round_changes play rounds)
rounds_tell net past play told [] before = rw (append-nil told) before
rounds_tell net past play told (round ∷ later) before =
    grind (arith, events_tell net past play told round.events before, append_assoc told (event_changes play round.events) (round_changes (after_plan play round) later), rounds_tell net past (after_plan play round) (told ++ event_changes play round.events) later)

pub ticks_tell : (net : Parts) (past : ℕ) (play : PlayState) (told : List Change) (vectors : List (List Bool)) (plans : List (List RoundPlan)) → All (λ (inputs : List Bool). length inputs ≡ length net.inputs) vectors → PlayTells net past play told →
    PlayTells net past (after_ticks play (zip vectors plans)) (told ++ later_changes play (zip vectors plans))
ticks_tell net past play told [] plans fit before = rw (append-nil told) before
ticks_tell net past play told (inputs ∷ vectors) [] fit before = rw (append-nil told) before
ticks_tell net past play told (inputs ∷ vectors) (rounds ∷ plans) fit before =
    let opened : PlayState = next_tick play inputs in
    let start : PlayTells net past opened (told ++ openings opened) =
    record {
      same_net = before.same_net;
      same_past = before.same_past;
      of_play = opening_tells play told before.of_play inputs (fit 0 [] (omega arith) ∙ ap (λ (n : Parts). length n.inputs) (sym before.same_net));
    } in
    let here = rounds_tell net past opened (told ++ openings opened) rounds start in
    let whole = ticks_tell net past (after_plans opened rounds) ((told ++ openings opened) ++ round_changes opened rounds) vectors plans (λ k d short. fit (suc k) d (omega (arith, short))) here in
    let joined : ((told ++ openings opened) ++ round_changes opened rounds) ++ later_changes (after_plans opened rounds) (zip vectors plans)
    ≡ told ++ (tick_changes opened rounds ++ later_changes (after_plans opened rounds) (zip vectors plans)) =
    ap (λ (cs : List Change). cs ++ later_changes (after_plans opened rounds) (zip vectors plans)) (append_assoc told (openings opened) (round_changes opened rounds))
    ∙ append_assoc told (tick_changes opened rounds) (later_changes (after_plans opened rounds) (zip vectors plans)) in
    rw joined at whole

run_tells : (net : Parts) (schedule : Schedule) (inputs : List Bool) (vectors : List (List Bool)) (plans : List (List RoundPlan)) → schedule.ticks ≡ plans →
    length schedule.latches ≡ length net.latches → length schedule.gates ≡ length net.gates → length inputs ≡ length net.inputs →
    All (λ (inputs : List Bool). length inputs ≡ length net.inputs) vectors → length schedule.ticks ≡ length (inputs ∷ vectors) →
    (s : Sig) (at : ℕ) → s.0 < count net →
    last_value (changes net schedule (inputs ∷ vectors)) s at ≡ Some (bit_at (moment_of_run net schedule (inputs ∷ vectors) at) s)
run_tells net schedule inputs vectors [] is latches gates here fit ticks s at short = grind arith
run_tells net schedule inputs vectors (rounds ∷ plans) is latches gates here fit ticks s at short =
    let past : History = reverse schedule.past in
    let opened : PlayState = first_opened net schedule inputs in
    let start : PlayTells net (length past) opened (openings opened) =
    record {
      same_net = refl;
      same_past = refl;
      of_play = start_tells net schedule.window past (inputs ++ schedule.latches) schedule.gates (length-append inputs schedule.latches ∙ omega (arith, here, latches)) gates;
    } in
    let first = rounds_tell net (length past) opened (openings opened) rounds start in
    let whole = ticks_tell net (length past) (after_plans opened rounds) (tick_changes opened rounds) vectors plans fit first in
    let end : PlayState = after_ticks (after_plans opened rounds) (zip vectors plans) in
    let told : last_value (tick_changes opened rounds ++ later_changes (after_plans opened rounds) (zip vectors plans)) s at ≡ Some (bit_at (moment_of_number end.history (suc end.past + at)) s) =
    whole.of_play.tells s at (rw whole.same_net short) in
    rw is (told ∙ ap (λ (n : ℕ). Some (bit_at (moment_of_number end.history (suc n + at)) s)) (whole.same_past ∙ length-reverse schedule.past))

pub changes_tell : ChangesTellValues
changes_tell net schedule [] latches gates fit ticks some s at short = absurd (omega (arith, some))
changes_tell net schedule (inputs ∷ vectors) latches gates fit ticks some s at short =
    run_tells net schedule inputs vectors schedule.ticks refl latches gates (fit 0 [] (omega arith)) (λ k d few. fit (suc k) d (omega (arith, few))) ticks s at short
