-- A round of a storm, event by event.
use Rattle.std.proofs.Common.{◌≡◌, ◌≢◌, ◌⊎◌, inl, inr, ◌<◌, ◌≤◌, ◌+◌, ◌-◌, ℕ, zero, suc, Bool, true, false, not, ◌&&◌, List, [], ◌∷◌, ◌++◌, length, map, zip, get_or, refl, ap, sym, ◌∙◌, subst, arith, All, append_assoc}
use Rattle.std.specs.Prelude.{Any, filter, if◌then◌else◌}
use Rattle.std.specs.List.{range_with_len}
use Rattle.std.proofs.lemmas.List.{length-map, length-append, get_or-set_same, get_or-set_other, map-append}
use Rattle.std.proofs.lemmas.List.Elements.{All-head, All-tail, All-cons, All-nil, All-append, All-filter, All-map, All-weaker, filter-append}
use Rattle.std.proofs.lemmas.List.FromFn.{get_or-map-range_with_len, get_or-range_with_len, length-map-range_with_len, length-range_with_len}
use Rattle.cyc_base.specs.declared.sig.Sig.{Sig}
use Rattle.cyc_base.specs.declared.trit.Trit.{Trit}
use Rattle.cyc_base.specs.Values.{Completes}
use Rattle.cyc_base.proofs.OrderLemmas.{Completes-set, Completes-length}
use Rattle.netlist.specs.declared.parts.Parts.{Parts}
use Rattle.netlist.specs.Netlists.{gate_at, gate_sig, IsNetlist}
use Rattle.schedules.specs.declared.event.Event.{Event}
use Rattle.schedules.specs.Moments.{History, bit_at, moment_at, newest, event_value, next_moment, after_events}
use Rattle.schedules.specs.Fairness.{IsEventOf, ReadsFrom, IsFairRound}
use Rattle.delay_core.specs.declared.plan.PlannedEvent.{PlannedEvent}
use Rattle.storm.specs.declared.planning.StormPlan.{StormPlan}
use Rattle.storm.specs.Laws.{ChangesTo, FallsAndRises}
use Rattle.storm.specs.Plans.{is_shaking, pin_values}
use Rattle.storm.specs.Storms.{Turn, shakes, is_of_shaking, pin_age, ages, turn_event, turn_events, low_turn, high_turn}
use Rattle.storm.proofs.PlanLemmas.{fix_is_fixed, length-turn_events, turn_events-append}
use Rattle.storm.proofs.MomentLemmas.{fixed, plan, Stands, shakes_is, turn_width, shaking_takes, takes_above}

pub after_events-append : (net : Parts) (h : History) (es fs : List Event) → after_events net h (es ++ fs) ≡ after_events net (after_events net h es) fs
after_events-append net h [] fs = refl
after_events-append net h (e ∷ es) fs = after_events-append net (next_moment net h e ∷ h) es fs

-- the moments before some events, by their ages behind these
pub older_moment : (net : Parts) (h : History) (es : List Event) (j : ℕ) → moment_at (after_events net h es) (length es + j) ≡ moment_at h j
older_moment net h [] j = ap (moment_at h) (let e : 0 + j ≡ j = omega arith in e)
older_moment net h (e ∷ es) j = grind (arith, older_moment net (next_moment net h e ∷ h) es (suc j))

length-mapped : {A B C : Type 0} (f : A × B → C) (xs : List A) (ys : List B) → length ys ≡ length xs → length (map f (zip xs ys)) ≡ length xs
length-mapped f [] ys e = refl
length-mapped f (x ∷ xs) [] e = absurd (omega (arith, e))
length-mapped f (x ∷ xs) (y ∷ ys) e = ap suc (length-mapped f xs ys (omega (arith, e)))

pub Any-middle : {A : Type 0} (P : A → Type 0) (xs : List A) (y : A) (ys : List A) → P y → Any P (xs ++ (y ∷ ys))
Any-middle P [] y ys p = (0, y, omega arith, refl, p)
Any-middle P (x ∷ xs) y ys p = let (k, z, l, e, q) = Any-middle P xs y ys p in (suc k, z, omega (arith, l), e, q)

range-add : (a m n : ℕ) → range_with_len a (m + n) ≡ range_with_len a m ++ range_with_len (a + m) n
range-add a zero n = ap (range_with_len a) (let e : 0 + n ≡ n = omega arith in e) ∙ ap (λ k. range_with_len k n) (let e : a ≡ a + 0 = omega arith in e)
range-add a (suc m) n =
    ap (range_with_len a) (let e : suc m + n ≡ suc (m + n) = omega arith in e)
    ∙ ap (λ l. a ∷ l) (range-add (a + 1) m n ∙ ap (λ k. range_with_len (a + 1) m ++ range_with_len k n) (let e : a + 1 + m ≡ a + suc m = omega arith in e))

-- a range around one of its numbers
pub range_around : (k n : ℕ) → k < n → range_with_len 0 n ≡ range_with_len 0 k ++ (k ∷ range_with_len (k + 1) (n - k - 1))
range_around k n inside = grind (arith, range-add 0 k (suc (n - k - 1)))

range_below : (a n k : ℕ) → a + n ≤ k → All (λ j. j < k) (range_with_len a n)
range_below a n k l = λ i d inside. omega (arith, get_or-range_with_len a n i d (omega (arith, length-range_with_len a n)), length-range_with_len a n)

range_not : (a n k : ℕ) → (a + n ≤ k) ⊎ (k < a) → All (λ j. j ≢ k) (range_with_len a n)
range_not a n k h = grind (arith, get_or-range_with_len, length-range_with_len)

map_all : {A B : Type 0} (P : A → Type 0) (Q : B → Type 0) (f : A → B) (xs : List A) → ((x : A) → P x → Q (f x)) → All P xs → All Q (map f xs)
map_all P Q f xs h all = All-map Q f xs (All-weaker P (λ x. Q (f x)) h xs all)

module _ (net : Parts) (v : List Bool) (valid : IsNetlist net) (wide : length v ≡ length net.inputs + length net.latches) where
  abbrev pub G : ℕ
  G = length net.gates

  abbrev pub the_plan : StormPlan
  the_plan = plan net v valid wide

  abbrev pub all_fixed : List Trit
  all_fixed = fixed net v valid wide

  -- the events of turns
  abbrev pub events : ℕ → ℕ → List Turn → List Event
  events back i ts = map (λ planned. planned.event) (turn_events net the_plan back i ts)

  pub events-append : (back i : ℕ) (ts us : List Turn) → events back i (ts ++ us) ≡ events back i ts ++ events back (i + length ts) us
  events-append back i ts us = grind (arith, turn_events-append net the_plan back i ts us, map-append)

  pub length-events : (back i : ℕ) (ts : List Turn) → length (events back i ts) ≡ length ts
  length-events back i ts = length-map (turn_events net the_plan back i ts) (λ (planned : PlannedEvent). planned.event) ∙ length-turn_events net the_plan back i ts

  -- a turn that gives a shaking gate this value
  pub record IsTurnTo (wanted : Bool) (turn : Turn) : Type 0 where
    pub gate : turn.gate < G
    pub values : is_shaking net all_fixed turn.gate ≡ true → turn.values ≡ pin_values net all_fixed wanted turn.gate

  abbrev pub IsTurn : Turn → Type 0
  IsTurn turn = (wanted : Bool) × IsTurnTo wanted turn

  -- Behind so many events of a round: the moment of that age has the shaking gates at 1, and the one `back` before it has
  -- them at 0.
  pub record During (back i : ℕ) (h : History) : Type 0 where
    pub all : All (Completes all_fixed) h
    pub some : 1 ≤ length h
    pub ones : Stands net v valid wide true (moment_at h i)
    pub zeros : Stands net v valid wide false (moment_at h (i + back))

  newest_above : (back i : ℕ) (h : History) → During back i h → Completes all_fixed (newest h)
  newest_above back i h during = during.all 0 [] (let some = during.some in omega (arith, some))

  module _ (back i : ℕ) (h : History) (turn : Turn) (during : During back i h) where
    abbrev next : History
    next = next_moment net h (turn_event net the_plan back i turn).event ∷ h

    module _ (inside : turn.gate < G) where
      pub turn_keeps : During back (suc i) next
      turn_keeps = record {
        all = All-cons (Completes all_fixed) (next_moment net h (turn_event net the_plan back i turn).event) h
            (Completes-set all_fixed (newest h) (gate_sig net turn.gate).0 (event_value net h (turn_event net the_plan back i turn).event) (newest_above back i h during)
            (takes_above net v valid wide back i h during.ones during.zeros turn inside)) during.all;
        some = let some = during.some in omega (arith, some);
        ones = during.ones;
        zeros = subst (λ k. Stands net v valid wide false (moment_at next k)) (let e : suc (i + back) ≡ suc i + back = omega arith in e) during.zeros;
      }

      pub turn_gives : (wanted : Bool) → IsTurnTo wanted turn → is_shaking net all_fixed turn.gate ≡ true → event_value net h (turn_event net the_plan back i turn).event ≡ wanted
      turn_gives wanted is shaking = shaking_takes net v valid wide back i h during.ones during.zeros turn inside wanted shaking (is.values shaking)

      width_newest : length (newest h) ≡ length net.inputs + length net.latches + G
      width_newest = sym (Completes-length all_fixed (newest h) (newest_above back i h during)) ∙ (fix_is_fixed net v wide).width

      -- the gate has its new value
      pub turn_sets : bit_at (newest next) (gate_sig net turn.gate) ≡ event_value net h (turn_event net the_plan back i turn).event
      turn_sets = get_or-set_same (newest h) (gate_sig net turn.gate).0 (event_value net h (turn_event net the_plan back i turn).event) false (let w = width_newest in omega (arith, w, inside))

    -- and each other one has its old value
    pub turn_leaves : (n : ℕ) → turn.gate ≢ n → bit_at (newest next) (gate_sig net n) ≡ bit_at (newest h) (gate_sig net n)
    turn_leaves n other = get_or-set_other (newest h) (gate_sig net turn.gate).0 (gate_sig net n).0 (event_value net h (turn_event net the_plan back i turn).event) false (λ e. other (omega (arith, e)))

  pub turns_keep : (back i : ℕ) (h : History) (ts : List Turn) → During back i h → All (λ (turn : Turn). turn.gate < G) ts → During back (i + length ts) (after_events net h (events back i ts))
  turns_keep back i h [] during inside = let e : i + 0 ≡ i = omega arith in rw e during
  turns_keep back i h (turn ∷ ts) during inside =
      let here = All-head (λ (t : Turn). t.gate < G) turn ts inside in
      let e : i + suc (length ts) ≡ suc i + length ts = omega arith in
      rw e (turns_keep back (suc i) (next back i h turn during) ts (turn_keeps back i h turn during here) (All-tail (λ (t : Turn). t.gate < G) turn ts inside))

  -- turns of other gates leave a gate as it is
  pub turns_leave : (back i : ℕ) (h : History) (ts : List Turn) (n : ℕ) → During back i h → All (λ (turn : Turn). turn.gate < G) ts → All (λ (turn : Turn). turn.gate ≢ n) ts
      → bit_at (newest (after_events net h (events back i ts))) (gate_sig net n) ≡ bit_at (newest h) (gate_sig net n)
  turns_leave back i h [] n during inside others = refl
  turns_leave back i h (turn ∷ ts) n during inside others =
      let here = All-head (λ (t : Turn). t.gate < G) turn ts inside in
      turns_leave back (suc i) (next back i h turn during) ts n (turn_keeps back i h turn during here) (All-tail (λ (t : Turn). t.gate < G) turn ts inside) (All-tail (λ (t : Turn). t.gate ≢ n) turn ts others)
      ∙ turn_leaves back i h turn during n (All-head (λ (t : Turn). t.gate ≢ n) turn ts others)

  -- ---- the turns of a round

  abbrev pub lows : ℕ → ℕ → List Turn
  lows a n = map (low_turn the_plan) (range_with_len a n)

  abbrev pub highs : ℕ → ℕ → List Turn
  highs a n = map (high_turn the_plan) (filter (shakes the_plan) (range_with_len a n))

  lows_inside : (a n : ℕ) → a + n ≤ G → All (λ (turn : Turn). turn.gate < G) (lows a n)
  lows_inside a n l = All-map (λ (turn : Turn). turn.gate < G) (low_turn the_plan) (range_with_len a n) (range_below a n G l)

  lows_not : (a n k : ℕ) → (a + n ≤ k) ⊎ (k < a) → All (λ (turn : Turn). turn.gate ≢ k) (lows a n)
  lows_not a n k out = All-map (λ (turn : Turn). turn.gate ≢ k) (low_turn the_plan) (range_with_len a n) (range_not a n k out)

  highs_each : (P : ℕ → Type 0) (a n : ℕ) → All P (range_with_len a n) → All (λ (turn : Turn). P turn.gate) (highs a n)
  highs_each P a n each =
      All-map (λ (turn : Turn). P turn.gate) (high_turn the_plan) (filter (shakes the_plan) (range_with_len a n)) (All-filter (shakes the_plan) P (range_with_len a n) each)

  highs_inside : (a n : ℕ) → a + n ≤ G → All (λ (turn : Turn). turn.gate < G) (highs a n)
  highs_inside a n l = highs_each (λ j. j < G) a n (range_below a n G l)

  highs_not : (a n k : ℕ) → (a + n ≤ k) ⊎ (k < a) → All (λ (turn : Turn). turn.gate ≢ k) (highs a n)
  highs_not a n k out = highs_each (λ j. j ≢ k) a n (range_not a n k out)

  low_is : (n : ℕ) → n < G → IsTurnTo false (low_turn the_plan n)
  low_is n inside = record { gate = inside; values = λ shaking. get_or-map-range_with_len (pin_values net all_fixed false) 0 G n n [] inside (omega arith) }

  high_is : (n : ℕ) → n < G → IsTurnTo true (high_turn the_plan n)
  high_is n inside = record { gate = inside; values = λ shaking. get_or-map-range_with_len (pin_values net all_fixed true) 0 G n n [] inside (omega arith) }

  module _ (k : ℕ) (inside : k < G) where
    abbrev left : ℕ
    left = G - k - 1

    pub lows_around : lows 0 G ≡ lows 0 k ++ (low_turn the_plan k ∷ lows (k + 1) left)
    lows_around = ap (map (low_turn the_plan)) (range_around k G inside) ∙ map-append (low_turn the_plan) (range_with_len 0 k) (k ∷ range_with_len (k + 1) left)

    module _ (shaking : is_shaking net all_fixed k ≡ true) where
      highs_around : highs 0 G ≡ highs 0 k ++ (high_turn the_plan k ∷ highs (k + 1) left)
      highs_around =
          grind (arith, range_around k G inside, filter-append (shakes the_plan) (range_with_len 0 k) (k ∷ range_with_len (k + 1) left), shakes_is net v valid wide k inside, map-append (high_turn the_plan) (filter (shakes the_plan) (range_with_len 0 k)) (k ∷ filter (shakes the_plan) (range_with_len (k + 1) left)))

      turns_around : lows 0 G ++ highs 0 G ≡ lows 0 k ++ (low_turn the_plan k ∷ ((lows (k + 1) left ++ highs 0 k) ++ (high_turn the_plan k ∷ highs (k + 1) left)))
      turns_around = rw (lows_around, highs_around) (simp append_assoc)

      -- the gate falls and rises
      pub falls_and_rises : (back : ℕ) (h : History) → During back 0 h → bit_at (newest h) (gate_sig net k) ≡ true → FallsAndRises net k h (events back 0 (lows 0 G ++ highs 0 G))
      falls_and_rises back h during one =
          let middle : List Turn = lows (k + 1) left ++ highs 0 k in
          let first_inside = lows_inside 0 k (omega (arith, inside)) in
          let middle_inside = All-append (λ (turn : Turn). turn.gate < G) (lows (k + 1) left) (highs 0 k) (lows_inside (k + 1) left (omega (arith, inside))) (highs_inside 0 k (omega (arith, inside))) in
          let middle_not = All-append (λ (turn : Turn). turn.gate ≢ k) (lows (k + 1) left) (highs 0 k) (lows_not (k + 1) left k (inr (omega arith))) (highs_not 0 k k (inl (omega arith))) in
          let i1 : ℕ = 0 + length (lows 0 k) in
          let h1 : History = after_events net h (events back 0 (lows 0 k)) in
          let d1 = turns_keep back 0 h (lows 0 k) during first_inside in
          let fall : Event = (turn_event net the_plan back i1 (low_turn the_plan k)).event in
          let zero : event_value net h1 fall ≡ false = turn_gives back i1 h1 (low_turn the_plan k) d1 inside false (low_is k inside) shaking in
          let h2 : History = next_moment net h1 fall ∷ h1 in
          let d2 = turn_keeps back i1 h1 (low_turn the_plan k) d1 inside in
          let i3 : ℕ = suc i1 + length middle in
          let h3 : History = after_events net h2 (events back (suc i1) middle) in
          let d3 = turns_keep back (suc i1) h2 middle d2 middle_inside in
          let rise : Event = (turn_event net the_plan back i3 (high_turn the_plan k)).event in
          let rises : ChangesTo net k true h3 rise = record {
            of = refl;
            before = turns_leave back (suc i1) h2 middle k d2 middle_inside middle_not ∙ turn_sets back i1 h1 (low_turn the_plan k) d1 inside ∙ zero;
            gives = turn_gives back i3 h3 (high_turn the_plan k) d3 inside true (high_is k inside) shaking;
          } in
          record {
            before = events back 0 (lows 0 k);
            fall = fall;
            between = events back (suc i1) middle;
            rise = rise;
            after = events back (suc i3) (highs (k + 1) left);
            order =
                ap (events back 0) turns_around
                ∙ events-append back 0 (lows 0 k) (low_turn the_plan k ∷ (middle ++ (high_turn the_plan k ∷ highs (k + 1) left)))
                ∙ ap (λ l. events back 0 (lows 0 k) ++ (fall ∷ l)) (events-append back (suc i1) middle (high_turn the_plan k ∷ highs (k + 1) left));
            falls = record { of = refl; before = turns_leave back 0 h (lows 0 k) k during first_inside (lows_not 0 k k (inl (omega arith))) ∙ one; gives = zero };
            rises = subst (λ past. ChangesTo net k true past rise) (sym (after_events-append net h (events back 0 (lows 0 k)) (fall ∷ events back (suc i1) middle))) rises;
          }

      -- ---- where a half leads

      -- behind turns of which one gives the gate a value, and none is behind it
      half_gives : (back i : ℕ) (h : History) (wanted : Bool) (ahead bs : List Turn) (turn : Turn) → During back i h → All (λ (t : Turn). t.gate < G) ahead → All (λ (t : Turn). t.gate < G) bs
          → All (λ (t : Turn). t.gate ≢ k) bs → turn.gate ≡ k → IsTurnTo wanted turn
          → bit_at (newest (after_events net h (events back i (ahead ++ (turn ∷ bs))))) (gate_sig net k) ≡ wanted
      half_gives back i h wanted ahead bs turn during in_ahead in_bs not_bs same is =
          let h1 : History = after_events net h (events back i ahead) in
          let d1 = turns_keep back i h ahead during in_ahead in
          let there : is_shaking net all_fixed turn.gate ≡ true = ap (is_shaking net all_fixed) same ∙ shaking in
          let h2 : History = next_moment net h1 (turn_event net the_plan back (i + length ahead) turn).event ∷ h1 in
          let d2 = turn_keeps back (i + length ahead) h1 turn d1 is.gate in
          ap (λ es. bit_at (newest (after_events net h es)) (gate_sig net k)) (events-append back i ahead (turn ∷ bs))
          ∙ ap (λ past. bit_at (newest past) (gate_sig net k)) (after_events-append net h (events back i ahead) (events back (i + length ahead) (turn ∷ bs)))
          ∙ turns_leave back (suc (i + length ahead)) h2 bs k d2 in_bs not_bs
          ∙ ap (λ n. bit_at (newest h2) (gate_sig net n)) (sym same)
          ∙ turn_sets back (i + length ahead) h1 turn d1 is.gate
          ∙ turn_gives back (i + length ahead) h1 turn d1 is.gate wanted is there

      pub lows_give : (back : ℕ) (h : History) → During back 0 h → bit_at (newest (after_events net h (events back 0 (lows 0 G)))) (gate_sig net k) ≡ false
      lows_give back h during = grind (arith, lows_around, half_gives back 0 h false (lows 0 k) (lows (k + 1) left) (low_turn the_plan k) during, lows_inside 0 k, lows_inside (k + 1) left, lows_not (k + 1) left k, low_is k inside)

      pub highs_give : (back i : ℕ) (h : History) → During back i h → bit_at (newest (after_events net h (events back i (highs 0 G)))) (gate_sig net k) ≡ true
      highs_give back i h during = grind (arith, highs_around, half_gives back i h true (highs 0 k) (highs (k + 1) left) (high_turn the_plan k) during, highs_inside 0 k, highs_inside (k + 1) left, highs_not (k + 1) left k, high_is k inside)

  -- behind a round the shaking gates stand at 1, and behind its first half they stood at 0
  pub round_leads : (back : ℕ) (h : History) → During back 0 h → During (length (highs 0 G)) 0 (after_events net h (events back 0 (lows 0 G ++ highs 0 G)))
  round_leads back h during =
      let i : ℕ = 0 + length (lows 0 G) in
      let h1 : History = after_events net h (events back 0 (lows 0 G)) in
      let h2 : History = after_events net h1 (events back i (highs 0 G)) in
      let all_inside : 0 + G ≤ G = omega arith in
      let d1 : During back i h1 = turns_keep back 0 h (lows 0 G) during (lows_inside 0 G all_inside) in
      let d2 : During back (i + length (highs 0 G)) h2 = turns_keep back i h1 (highs 0 G) d1 (highs_inside 0 G all_inside) in
      let low_end : Stands net v valid wide false (newest h1) = record { above = newest_above back i h1 d1; at = λ n inside shaking. lows_give n inside shaking back h during } in
      grind (arith, length-events back i (highs 0 G), older_moment net h1 (events back i (highs 0 G)) 0, events-append back 0 (lows 0 G) (highs 0 G), after_events-append net h (events back 0 (lows 0 G)) (events back i (highs 0 G)), newest_above back (i + length (highs 0 G)) h2 d2, highs_give)

  -- ---- a round is fair

  ages_width : (back i : ℕ) (turn : Turn) (wanted shaking : Bool) → is_shaking net all_fixed turn.gate ≡ shaking → IsTurnTo wanted turn → length (ages net the_plan back i turn) ≡ length (gate_at net turn.gate).pins
  ages_width back i turn wanted true is to =
      grind (arith, shakes_is net v valid wide turn.gate to.gate, length-mapped (pin_age net the_plan back i) (gate_at net turn.gate).pins turn.values (turn_width net v valid wide turn to.gate wanted is (to.values is)), turn_width net v valid wide turn to.gate wanted is (to.values is))
  ages_width back i turn wanted false is to = rw (shakes_is net v valid wide turn.gate to.gate, is) (length-map (gate_at net turn.gate).pins (λ (pin : Sig). i))

  turns_valid : (back i : ℕ) (ts : List Turn) → All IsTurn ts → All (IsEventOf net) (events back i ts)
  turns_valid back i [] all = All-nil (IsEventOf net)
  turns_valid back i (turn ∷ ts) all =
      let (wanted, to) = All-head IsTurn turn ts all in
      All-cons (IsEventOf net) (turn_event net the_plan back i turn).event (events back (suc i) ts)
      (record { gate = to.gate; ages = ages_width back i turn wanted (is_shaking net all_fixed turn.gate) refl to })
      (turns_valid back (suc i) ts (All-tail IsTurn turn ts all))

  -- no age is over that of the zeros
  age_by : (back i : ℕ) (t : Bool) → (if t then i + back else i) ≤ i + back
  age_by back i t = grind arith

  ages_by : (back i : ℕ) (pins : List Sig) (values : List Bool) (t : Bool) → All (λ age. age ≤ i + back) (if t then map (pin_age net the_plan back i) (zip pins values) else map (λ (pin : Sig). i) pins)
  ages_by back i pins values true =
      All-map (λ age. age ≤ i + back) (pin_age net the_plan back i) (zip pins values)
      (λ k d l. let pin = get_or (zip pins values) k d in age_by back i (is_of_shaking net the_plan pin.0 && not pin.1))
  ages_by back i pins values false = All-map (λ age. age ≤ i + back) (λ (pin : Sig). i) pins (λ k d l. omega arith)

  turns_read : (back i first size : ℕ) (ts : List Turn) → first + (i + back) ≤ size → ReadsFrom first size (events back i ts)
  turns_read back i first size [] l = tt
  turns_read back i first size (turn ∷ ts) l = grind (arith, All-weaker, ages_by back i (gate_at net turn.gate).pins turn.values (shakes the_plan turn.gate), turns_read back (suc i) first (suc size) ts)

  pub round_is_fair : (back first size : ℕ) → first + back ≤ size → IsFairRound net first size (events back 0 (lows 0 G ++ highs 0 G))
  round_is_fair back first size l = record {
    events = turns_valid back 0 (lows 0 G ++ highs 0 G)
        (All-append IsTurn (lows 0 G) (highs 0 G)
        (map_all (λ j. j < G) IsTurn (low_turn the_plan) (range_with_len 0 G) (λ j inside. (false, low_is j inside)) (range_below 0 G G (omega arith)))
        (map_all (λ j. j < G) IsTurn (high_turn the_plan) (filter (shakes the_plan) (range_with_len 0 G)) (λ j inside. (true, high_is j inside))
        (All-filter (shakes the_plan) (λ j. j < G) (range_with_len 0 G) (range_below 0 G G (omega arith)))));
    each_gate = λ n inside.
        subst (λ es. Any (λ (event : Event). event.gate ≡ n) es) (sym (ap (events back 0) (ap (λ l. l ++ highs 0 G) (lows_around n inside) ∙ append_assoc (lows 0 n) (low_turn the_plan n ∷ lows (n + 1) (G - n - 1)) (highs 0 G)) ∙ events-append back 0 (lows 0 n) (low_turn the_plan n ∷ (lows (n + 1) (G - n - 1) ++ highs 0 G))))
        (Any-middle (λ (event : Event). event.gate ≡ n) (events back 0 (lows 0 n)) (turn_event net the_plan back (0 + length (lows 0 n)) (low_turn the_plan n)).event (events back (suc (0 + length (lows 0 n))) (lows (n + 1) (G - n - 1) ++ highs 0 G)) refl);
    reads = turns_read back 0 first size (lows 0 G ++ highs 0 G) (omega (arith, l));
  }

  pub length-round : (back : ℕ) → length (events back 0 (lows 0 G ++ highs 0 G)) ≡ G + length (highs 0 G)
  length-round back = length-events back 0 (lows 0 G ++ highs 0 G) ∙ length-append (lows 0 G) (highs 0 G) ∙ ap (λ n. n + length (highs 0 G)) (length-map-range_with_len (low_turn the_plan) 0 G)

  pub turns_inside : All (λ (turn : Turn). turn.gate < G) (lows 0 G ++ highs 0 G)
  turns_inside = All-append (λ (turn : Turn). turn.gate < G) (lows 0 G) (highs 0 G) (lows_inside 0 G (omega arith)) (highs_inside 0 G (omega arith))
