-- What the lines of a written schedule say.
use Rattle.std.proofs.Common.{◌≡◌, ◌+◌, ℕ, Bool, false, ◌||◌, List, [], ◌∷◌, ◌++◌, length, map, refl, ap, sym, ◌∙◌, arith, All, None, append_assoc, append-nil}
use Rattle.sched_text.proofs.Common.{codes, decimal, unwrap_or, flat_map, list_any, option_or, All-nil, All-cons, All-head, All-tail, Parts, IsNetlist, PlannedEvent, RoundPlan, Schedule, end_number, IsLine, numbered, unless, arguments, IsSmall, schedule, statement, Draft, new_draft, follow, bits_words, past_line, start_word, event_line, round_lines, tick_lines, lines_of}
use Rattle.std.specs.List.{filter_map, cons_option}
use Rattle.std.specs.declared.option.Option.{Option}
use Rattle.sched_text.specs.declared.statement.ScheduleStatement.{ScheduleStatement}
use Rattle.sched_text.specs.declared.statement.ScheduleStatement.TheVariants.{Format, Window, Past, Gates, Tick, Round, Event}
use Rattle.sched_text.specs.Faults.{of_lines}
use Rattle.sched_text.specs.Numbers.{number_of}
use Rattle.sched_text.specs.ReadingBack.{event_unnumbered, round_unnumbered, unnumbered, WrittenReadsBack}
use Rattle.sched_text.specs.Schedules.{last_there, window_told, past_told, start_told, gates_told, is_state, events_ahead, rounds_ahead, ticks_ahead, schedule_of}
use Rattle.sched_text.specs.Statements.{planned}
use Rattle.sched_text.specs.Written.{written}
use Rattle.sched_text.specs.ReadingOn.{whole}
use Rattle.std.proofs.Math.Bool.{or-false}
use Rattle.sched_text.proofs.LevelLemmas.{IsWritable, AreWritable, ticks_each}
use Rattle.sched_text.proofs.ScheduleLemmas.{whole_step}
use Rattle.sched_text.proofs.GateLemmas.{gate_of_name}
use Rattle.sched_text.proofs.WrittenLines.{written_lines, written_end}
use Rattle.sched_text.proofs.WrittenNumbers.{number_decimal}
use Rattle.sched_text.proofs.FaultlessLemmas.{bits_back, no_fault}
use Rattle.sched_text.proofs.NamedLemmas.{lines_named}

-- a statement tells nothing of the head
record TellsNothing (said : ScheduleStatement) : Type 0 where
  pub window : window_told said ≡ None
  pub past : past_told said ≡ None
  pub start : start_told said ≡ None
  pub gates : gates_told said ≡ None
  pub state : is_state said ≡ false

event_tells : (p : PlannedEvent) → TellsNothing (Event p)
event_tells p = record { window = refl; past = refl; start = refl; gates = refl; state = refl }

round_tells : (n : ℕ) → TellsNothing (Round n)
round_tells n = record { window = refl; past = refl; start = refl; gates = refl; state = refl }

tick_tells : TellsNothing Tick
tick_tells = record { window = refl; past = refl; start = refl; gates = refl; state = refl }

last_none : {X : Type 0} (told : ScheduleStatement → Option X) (said : List ScheduleStatement) → All (λ s. told s ≡ None) said → last_there told said ≡ None
last_none told [] none = refl
last_none told (s ∷ said) none =
    ap (λ o. option_or o (told s)) (last_none told said (All-tail (λ s. told s ≡ None) s said none)) ∙ All-head (λ s. told s ≡ None) s said none

kept_none : {X : Type 0} (told : ScheduleStatement → Option X) (said : List ScheduleStatement) → All (λ s. told s ≡ None) said → filter_map told said ≡ []
kept_none told [] none = refl
kept_none told (s ∷ said) none =
    ap (λ o. cons_option o (filter_map told said)) (All-head (λ s. told s ≡ None) s said none) ∙ kept_none told said (All-tail (λ s. told s ≡ None) s said none)

any_none : (p : ScheduleStatement → Bool) (said : List ScheduleStatement) → All (λ s. p s ≡ false) said → list_any p said ≡ false
any_none p [] none = refl
any_none p (s ∷ said) none =
    ap (λ t. t || list_any p said) (All-head (λ s. p s ≡ false) s said none) ∙ any_none p said (All-tail (λ s. p s ≡ false) s said none)

module _ (net : Parts) where
  -- what lines of these words say, numbered from n
  abbrev pub says : ℕ → List (List (List ℕ)) → List ScheduleStatement
  says n ws = map (statement net) (numbered n ws)

  says-append : (n : ℕ) (xs ys : List (List (List ℕ))) → says n (xs ++ ys) ≡ says n xs ++ says (n + length xs) ys
  says-append n [] ys = ap (λ k. says k ys) (let e : n ≡ n + 0 = omega arith in e)
  says-append n (x ∷ xs) ys = grind (arith, says-append (n + 1) xs ys)

  says_before : (n : ℕ) (xs ys : List (List (List ℕ))) (rest : List ScheduleStatement) → says n (xs ++ ys) ++ rest ≡ says n xs ++ (says (n + length xs) ys ++ rest)
  says_before n xs ys rest = ap (λ l. l ++ rest) (says-append n xs ys) ∙ append_assoc (says n xs) (says (n + length xs) ys) rest

  -- ---- events, rounds and ticks

  -- where the first of these lines is a tick, nothing else is ahead
  tick_first : {X : Type 0} (ahead : List ScheduleStatement → List X) → ahead [] ≡ [] → ((rest : List ScheduleStatement) → ahead (Tick ∷ rest) ≡ [])
      → (n : ℕ) (ticks : List (List RoundPlan)) → ahead (says n (flat_map (tick_lines net) ticks)) ≡ []
  tick_first ahead none over n [] = none
  tick_first ahead none over n (tick ∷ ticks) = over (says (n + 1) (flat_map (round_lines net) tick ++ flat_map (tick_lines net) ticks))

  no_event_first : (n : ℕ) (rounds : List RoundPlan) (rest : List ScheduleStatement) → events_ahead rest ≡ [] → events_ahead (says n (flat_map (round_lines net) rounds) ++ rest) ≡ []
  no_event_first n [] rest none = none
  no_event_first n (round ∷ rounds) rest none = refl

  -- events are passed over
  events_passed : {X : Type 0} (ahead : List ScheduleStatement → List X) → ((p : PlannedEvent) (rest : List ScheduleStatement) → ahead (Event p ∷ rest) ≡ ahead rest)
      → (n : ℕ) (ps : List PlannedEvent) (rest : List ScheduleStatement) → ahead (says n (map (event_line net) ps) ++ rest) ≡ ahead rest
  events_passed ahead pass n [] rest = refl
  events_passed ahead pass n (p ∷ ps) rest = grind (arith, events_passed ahead pass (n + 1) ps rest)

  rounds_end_no_tick : (n : ℕ) (rounds : List RoundPlan) (rest : List ScheduleStatement) → ticks_ahead (says n (flat_map (round_lines net) rounds) ++ rest) ≡ ticks_ahead rest
  rounds_end_no_tick n [] rest = refl
  rounds_end_no_tick n (round ∷ rounds) rest =
      let m : ℕ = n + 1 + length (map (event_line net) round.events) in
      grind (arith, says_before (n + 1) (map (event_line net) round.events) (flat_map (round_lines net) rounds), events_passed ticks_ahead, rounds_end_no_tick m rounds)

  ages_back : (ages : List ℕ) → All IsSmall ages → map number_of (map decimal ages) ≡ ages
  ages_back [] small = refl
  ages_back (age ∷ ages) small = rw (number_decimal age (All-head IsSmall age ages small), ages_back ages (All-tail IsSmall age ages small)) refl

  module _ (valid : IsNetlist net) where
    event_back : (n : ℕ) (p : PlannedEvent) → IsWritable net p → planned net n (arguments (event_line net p)) ≡ record { line = n; event = p.event }
    event_back n p good = rw (gate_of_name net p.event.gate valid good.0, ages_back p.event.ages good.1) refl

    events_said : (n : ℕ) (ps : List PlannedEvent) (rest : List ScheduleStatement) → All (IsWritable net) ps
        → map event_unnumbered (events_ahead (says n (map (event_line net) ps) ++ rest)) ≡ map event_unnumbered ps ++ map event_unnumbered (events_ahead rest)
    events_said n [] rest good = refl
    events_said n (p ∷ ps) rest good = grind (arith, event_back n p (All-head (IsWritable net) p ps good), All-head (IsWritable net) p ps good, events_said (n + 1) ps rest (All-tail (IsWritable net) p ps good), All-tail (IsWritable net) p ps good)

    rounds_said : (n : ℕ) (rounds : List RoundPlan) (rest : List ScheduleStatement) → All (AreWritable net) rounds → events_ahead rest ≡ []
        → map round_unnumbered (rounds_ahead (says n (flat_map (round_lines net) rounds) ++ rest)) ≡ map round_unnumbered rounds ++ map round_unnumbered (rounds_ahead rest)
    rounds_said n [] rest good none = refl
    rounds_said n (round ∷ rounds) rest good none =
        let m : ℕ = n + 1 + length (map (event_line net) round.events) in
        let later : List ScheduleStatement = says m (flat_map (round_lines net) rounds) ++ rest in
        let here = events_said (n + 1) round.events later (All-head (AreWritable net) round rounds good) in
        rw (
          says_before (n + 1) (map (event_line net) round.events) (flat_map (round_lines net) rounds) rest,
          here,
          no_event_first m rounds rest none,
          append-nil (map event_unnumbered round.events),
          events_passed rounds_ahead (λ p rest. refl) (n + 1) round.events later,
          rounds_said m rounds rest (All-tail (AreWritable net) round rounds good) none,
        ) refl

    ticks_said : (n : ℕ) (ticks : List (List RoundPlan)) → All (All (AreWritable net)) ticks
        → map (map round_unnumbered) (ticks_ahead (says n (flat_map (tick_lines net) ticks))) ≡ map (map round_unnumbered) ticks
    ticks_said n [] good = refl
    ticks_said n (tick ∷ ticks) good =
        let m : ℕ = n + 1 + length (flat_map (round_lines net) tick) in
        let later : List ScheduleStatement = says m (flat_map (tick_lines net) ticks) in
        let here = rounds_said (n + 1) tick later (All-head (All (AreWritable net)) tick ticks good) (tick_first events_ahead refl (λ rest. refl) m ticks) in
        grind (arith, says-append (n + 1) (flat_map (round_lines net) tick) (flat_map (tick_lines net) ticks), tick_first rounds_ahead, append-nil (map round_unnumbered tick), rounds_end_no_tick (n + 1) tick later, ticks_said m ticks (All-tail (All (AreWritable net)) tick ticks good), All-tail (All (AreWritable net)) tick ticks good)

  -- ---- lines of ticks say nothing of the head

  says_each : (P : ScheduleStatement → Type 0) (n : ℕ) (ws : List (List (List ℕ))) → All (λ words. (k : ℕ) → P (statement net (record { number = k; words = words }))) ws → All P (says n ws)
  says_each P n [] each = All-nil P
  says_each P n (w ∷ ws) each =
      let Q : List (List ℕ) → Type 0 = λ words. (k : ℕ) → P (statement net (record { number = k; words = words })) in
      All-cons P (statement net (record { number = n; words = w })) (says (n + 1) ws) (All-head Q w ws each n) (says_each P (n + 1) ws (All-tail Q w ws each))

  ticks_tell : (n : ℕ) (ticks : List (List RoundPlan)) → All (All (AreWritable net)) ticks → All TellsNothing (says n (flat_map (tick_lines net) ticks))
  ticks_tell n ticks good =
      says_each TellsNothing n (flat_map (tick_lines net) ticks)
      (ticks_each net (λ words. (k : ℕ) → TellsNothing (statement net (record { number = k; words = words }))) (λ k. tick_tells) round_tells
      (λ p fits k. event_tells (planned net k (arguments (event_line net p)))) ticks good)

  -- ---- the head

  past_said : (n : ℕ) (draft : Draft) (past : List (List Bool)) (more : List (List (List ℕ)))
      → whole draft (says n (map past_line past ++ more)) ≡ whole (record draft { past = draft.past ++ past }) (says (n + length past) more)
  past_said n draft [] more = let e : n + 0 ≡ n = omega arith in rw (e, append-nil draft.past) refl
  past_said n draft (moment ∷ past) more =
      let rest = says (n + 1) (map past_line past ++ more) in
      grind (arith, bits_back moment, whole_step draft (Past moment) rest, past_said (n + 1) (follow draft (Past moment)) past more, append_assoc draft.past (moment ∷ []) past)

  start_said : (n : ℕ) (draft : Draft) (free : Bool) (bits : List Bool) (rest : List ScheduleStatement) → draft.free ≡ false
      → whole draft (statement net (record { number = n; words = start_word free ∷ bits_words bits }) ∷ rest) ≡ whole (record draft { free = free; latches = bits }) rest
  start_said n draft free bits rest held = grind (arith, bits_back, whole_step)

  module _ (s : Schedule) (small : IsSmall s.window) where
    abbrev tick_part : List (List (List ℕ))
    tick_part = flat_map (tick_lines net) s.ticks

    abbrev last_number : ℕ
    last_number = 3 + length s.past + 1 + 1

    -- the draft behind the head
    abbrev told : Draft
    told = record { window = s.window; past = s.past; free = s.free; latches = s.latches; gates = s.gates; ticks = []; tick = None }

    head_said : schedule_of (says 1 (lines_of net s)) ≡ whole told (says last_number tick_part)
    head_said =
        let start : List (List ℕ) = start_word s.free ∷ bits_words s.latches in
        let gates : List (List ℕ) = codes "gates" ∷ bits_words s.gates in
        let past : List (List (List ℕ)) = map past_line s.past in
        let rest : List (List (List ℕ)) = start ∷ (gates ∷ tick_part) in
        let with_window : Draft = record new_draft { window = s.window } in
        let with_past : Draft = record with_window { past = s.past } in
        let with_start : Draft = record with_past { free = s.free; latches = s.latches } in
        ap (λ o. whole new_draft (Format ∷ (Window (unwrap_or o 0) ∷ says 3 ((past ++ (start ∷ (gates ∷ []))) ++ tick_part)))) (number_decimal s.window small)
        ∙ ap (λ ws. whole new_draft (Format ∷ (Window s.window ∷ says 3 ws))) (append_assoc past (start ∷ (gates ∷ [])) tick_part)
        ∙ whole_step new_draft Format (Window s.window ∷ says 3 (past ++ rest))
        ∙ whole_step new_draft (Window s.window) (says 3 (past ++ rest))
        ∙ past_said 3 with_window s.past rest
        ∙ start_said (3 + length s.past) with_past s.free s.latches (says (3 + length s.past + 1) (gates ∷ tick_part)) refl
        ∙ ap (λ bits. whole with_start (Gates bits ∷ says last_number tick_part)) (bits_back s.gates)
        ∙ whole_step with_start (Gates s.gates) (says last_number tick_part)

    said_back : IsNetlist net → All (All (AreWritable net)) s.ticks → unnumbered (schedule_of (says 1 (lines_of net s))) ≡ unnumbered s
    said_back valid good =
        let later : List ScheduleStatement = says last_number tick_part in
        grind (arith, ticks_tell last_number s.ticks good, head_said, last_none window_told later, last_none start_told later, last_none gates_told later, kept_none past_told later, append-nil s.past, any_none is_state later, or-false s.free, ticks_said valid last_number s.ticks good)

pub reads_back : WrittenReadsBack
reads_back net s valid fits numbers =
    let L : List (List (List ℕ)) = lines_of net s in
    let good : All (All (AreWritable net)) s.ticks = λ k d l i r m j p n. (fits.events k d l i r m j p n, numbers.ages k d l i r m j p n) in
    let named : All IsLine L = lines_named net s valid numbers.window good in
    record {
      found = schedule_of (says net 1 L);
      read =
          ap (of_lines (schedule net (length s.ticks) (end_number (written net s)))) (written_lines L named)
          ∙ ap (λ o. unless o (schedule_of (says net 1 L))) (no_fault net s (end_number (written net s)) valid fits numbers.window good (sym (written_end L named)));
      same = said_back net s numbers.window valid good;
    }
