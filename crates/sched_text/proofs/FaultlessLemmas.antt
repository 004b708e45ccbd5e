-- A written schedule has no fault: each line is fine where it stands.
use Rattle.std.proofs.Common.{◌≡◌, ◌+◌, ℕ, suc, Bool, true, false, cond, ◌&&◌, List, [], ◌∷◌, ◌++◌, length, map, refl, ap, sym, ◌∙◌, subst, arith, All, Some, None, append_assoc}
use Rattle.sched_text.proofs.Common.{codes, decimal, is_some, list_all, flat_map, ne_eqb, All-head, All-tail, sum_by-cons, Latch, Parts, IsNetlist, PlannedEvent, RoundPlan, Schedule, Line, numbered, FitsNetlist, is_tick, lacks_lines, arguments, bit_of, bits_of, permits, first_refused, nearest, begins_tick, ticks_begun, is_cut_off, first_fault, IsSmall, bits_words, past_line, start_word, event_line, round_lines, tick_lines, lines_of}
use Rattle.std.specs.List.{AllZip}
use Rattle.cyc_io.specs.Bits.{bits_text}
use Rattle.std.specs.declared.option.Option.{Option}
use Rattle.std.proofs.lemmas.Bool.{eq-eqb, lt-ltb}
use Rattle.netlist.specs.declared.parts.Init.{Init}
use Rattle.netlist.specs.Netlists.{count}
use Rattle.netlist.specs.Fixpoint.{Permits, IsInitialState}
use Rattle.sched_text.specs.declared.kind.ScheduleKind.{ScheduleKind}
use Rattle.sched_text.specs.declared.kind.ScheduleKind.TheVariants.{FormatTwo, Window, Past, Latches, State, Gates, Tick, Round, Event}
use Rattle.sched_text.specs.Kinds.{kind_of_words, may_follow}
use Rattle.sched_text.specs.LineFaults.{are_bits, is_bit, is_age, has_words_of, width_fault, start_fault, fault_of_kind}
use Rattle.sched_text.proofs.GateLemmas.{gate_of_name}
use Rattle.sched_text.proofs.LevelLemmas.{IsWritable, AreWritable}
use Rattle.sched_text.proofs.WrittenNumbers.{number_decimal}

-- ---- bits

bytes_are_bits : (bits : List Bool) → list_all is_bit (bits_text bits) ≡ true
bytes_are_bits [] = refl
bytes_are_bits (true ∷ bits) = bytes_are_bits bits
bytes_are_bits (false ∷ bits) = bytes_are_bits bits

pub words_are_bits : (bits : List Bool) → are_bits (bits_words bits) ≡ true
words_are_bits [] = refl
words_are_bits (b ∷ bits) = bytes_are_bits (b ∷ bits)

bytes_back : (bits : List Bool) → map bit_of (bits_text bits) ≡ bits
bytes_back [] = refl
bytes_back (true ∷ bits) = ap (λ l. true ∷ l) (bytes_back bits)
bytes_back (false ∷ bits) = ap (λ l. false ∷ l) (bytes_back bits)

pub bits_back : (bits : List Bool) → bits_of (bits_words bits) ≡ bits
bits_back [] = refl
bits_back (b ∷ bits) = bytes_back (b ∷ bits)

width_is : (n width : ℕ) (bits : List Bool) → length bits ≡ width → width_fault n width (bits_of (bits_words bits)) ≡ None
width_is n width bits same = grind (arith, bits_back, eq-eqb)

-- ---- start values

permits_is : (init : Init) (b : Bool) → Permits init b → permits init b ≡ true
permits_is init b is = grind arith

none_refused : (i : ℕ) (latches : List Latch) (bits : List Bool) → AllZip (λ (latch : Latch). Permits latch.init) latches bits → first_refused i latches bits ≡ None
none_refused i [] bits all = refl
none_refused i (latch ∷ latches) [] all = refl
none_refused i (latch ∷ latches) (b ∷ bits) all = grind (arith, permits_is, none_refused (i + 1) latches bits all.1)

start_is : (net : Parts) (n : ℕ) (bits : List Bool) → IsInitialState net bits → start_fault n net.latches (bits_of (bits_words bits)) ≡ None
start_is net n bits initial = grind (arith, bits_back, none_refused)

-- ---- ages

ages_are : (ages : List ℕ) → All IsSmall ages → list_all is_age (map decimal ages) ≡ true
ages_are [] small = refl
ages_are (age ∷ ages) small = rw (number_decimal age (All-head IsSmall age ages small)) (ages_are ages (All-tail IsSmall age ages small))

-- ---- which lines may stand where

round_is_in_tick : (before : Option ScheduleKind) → may_follow before Round ≡ true → may_follow before Tick ≡ true
round_is_in_tick before may = grind arith

event_is_in_tick : (before : Option ScheduleKind) → may_follow before Event ≡ true → may_follow before Round ≡ true
event_is_in_tick before may = grind arith

-- what the latches start with, free or as their inits permit
abbrev start_kind : Bool → ScheduleKind
start_kind true = State
start_kind false = Latches

start_behind_past : (free : Bool) (before : Option ScheduleKind) → may_follow before Past ≡ true → may_follow before (start_kind free) ≡ true
start_behind_past free before may = grind arith

-- ---- lines without a fault

-- behind a line of this kind, with so many ticks begun
record At (k : Option ScheduleKind) (b : ℕ) (earlier : List Line) : Type 0 where
  pub before : nearest earlier ≡ k
  pub begun : ticks_begun earlier ≡ b

module _ (net : Parts) (ticks end : ℕ) where
  record IsFine (before : Option ScheduleKind) (begun : ℕ) (k : ScheduleKind) (line : List (List ℕ)) : Type 0 where
    pub kind : kind_of_words line ≡ k
    pub follows : may_follow before k ≡ true
    pub words : has_words_of k (arguments line) ≡ true
    pub fault : (n : ℕ) → fault_of_kind net ticks k n begun (arguments line) ≡ None

  -- these lines have no fault where they stand
  abbrev Free : Option ScheduleKind → ℕ → ℕ → List (List (List ℕ)) → Type 0
  Free before begun n ws = (earlier : List Line) → At before begun earlier → first_fault net ticks end earlier (numbered n ws) ≡ None

  -- nor wherever a line of this kind may stand
  abbrev FreeAt : ScheduleKind → ℕ → List (List (List ℕ)) → Type 0
  FreeAt k begun ws = (before : Option ScheduleKind) (n : ℕ) → may_follow before k ≡ true → n + length ws ≡ end → Free before begun n ws

  -- a line that isn't the text's last
  before_end : (n : ℕ) (words : List (List ℕ)) (ws : List (List (List ℕ))) → n + suc (length ws) ≡ end → is_cut_off end (record { number = n; words = words }) (numbered (n + 1) ws) ≡ false
  before_end n words [] size = ap (λ t. t && lacks_lines (Some (kind_of_words words))) (ne_eqb n end (λ e. omega (arith, size, e)))
  before_end n words (next ∷ ws) size = refl

  -- a fine line before lines without a fault
  step : (before : Option ScheduleKind) (begun now n : ℕ) (k : ScheduleKind) (words : List (List ℕ)) (ws : List (List (List ℕ))) → IsFine before begun k words → now ≡ cond (is_tick k) 1 0 + begun → n + suc (length ws) ≡ end
      → Free (Some k) now (n + 1) ws → Free before begun n (words ∷ ws)
  step before begun now n k words ws fine count size free earlier at =
      rw (at.before, at.begun, before_end n words ws size, fine.kind, fine.follows, fine.words, fine.fault n)
      (free (record { number = n; words = words } ∷ earlier) (record {
        before = ap (λ kd. Some kd) fine.kind;
        begun = sum_by-cons (λ line. cond (begins_tick line) 1 0) (record { number = n; words = words }) earlier ∙ rw (fine.kind, at.begun) (sym count);
      }))

  module _ (valid : IsNetlist net) where
    event_fine : (before : Option ScheduleKind) (begun : ℕ) (planned : PlannedEvent) → may_follow before Event ≡ true → IsWritable net planned → IsFine before begun Event (event_line net planned)
    event_fine before begun planned may good = grind (arith, ages_are planned.event.ages good.1, gate_of_name net planned.event.gate valid good.0)

    events_free : (begun : ℕ) (planned : List PlannedEvent) (more : List (List (List ℕ))) → All (IsWritable net) planned → FreeAt Event begun more → FreeAt Event begun (map (event_line net) planned ++ more)
    events_free begun [] more good free = free
    events_free begun (p ∷ planned) more good free = λ before n may size.
        step before begun begun n Event (event_line net p) (map (event_line net) planned ++ more)
        (event_fine before begun p may (All-head (IsWritable net) p planned good)) (omega arith) size
        (events_free begun planned more (All-tail (IsWritable net) p planned good) free (Some Event) (n + 1) refl (omega (arith, size)))

    rounds_free : (begun : ℕ) (rounds : List RoundPlan) (more : List (List (List ℕ))) → All (AreWritable net) rounds → FreeAt Round begun more → FreeAt Round begun (flat_map (round_lines net) rounds ++ more)
    rounds_free begun [] more good free = free
    rounds_free begun (round ∷ rounds) more good free = λ before n may size.
        let rest : List (List (List ℕ)) = flat_map (round_lines net) rounds ++ more in
        let events : List (List (List ℕ)) = map (event_line net) round.events in
        let same : (events ++ flat_map (round_lines net) rounds) ++ more ≡ events ++ rest = append_assoc events (flat_map (round_lines net) rounds) more in
        let width = ap length same in
        let later : FreeAt Round begun rest = rounds_free begun rounds more (All-tail (AreWritable net) round rounds good) free in
        step before begun begun n Round (codes "round" ∷ []) ((events ++ flat_map (round_lines net) rounds) ++ more)
        (record { kind = refl; follows = may; words = refl; fault = λ n. refl }) (omega arith) size
        (subst (Free (Some Round) begun (n + 1)) (sym same)
        (events_free begun round.events rest (All-head (AreWritable net) round rounds good) (λ k m p l. later k m (event_is_in_tick k p) l) (Some Round) (n + 1) refl (omega (arith, size, width))))

    end_free : (begun : ℕ) → ticks ≡ begun → FreeAt Tick begun []
    end_free begun all before n may size earlier at = grind arith

    ticks_free : (begun : ℕ) (ts : List (List RoundPlan)) → begun + length ts ≡ ticks → All (All (AreWritable net)) ts → FreeAt Tick begun (flat_map (tick_lines net) ts)
    ticks_free begun [] all good = end_free begun (omega (arith, all))
    ticks_free begun (t ∷ ts) all good = λ before n may size.
        let rest : List (List (List ℕ)) = flat_map (tick_lines net) ts in
        let later : FreeAt Tick (1 + begun) rest = ticks_free (1 + begun) ts (omega (arith, all)) (All-tail (All (AreWritable net)) t ts good) in
        let few = lt-ltb begun ticks (omega (arith, all)) in
        step before begun (1 + begun) n Tick (codes "tick" ∷ []) (flat_map (round_lines net) t ++ rest)
        (record { kind = refl; follows = may; words = refl; fault = λ n. rw few refl }) refl size
        (rounds_free (1 + begun) t rest (All-head (All (AreWritable net)) t ts good) (λ k m p l. later k m (round_is_in_tick k p) l) (Some Tick) (n + 1) refl (omega (arith, size)))

    -- ---- the head

    past_free : (past : List (List Bool)) (more : List (List (List ℕ))) → All (λ (moment : List Bool). length moment ≡ count net) past
        → FreeAt Past 0 more → FreeAt Past 0 (map past_line past ++ more)
    past_free [] more widths free = free
    past_free (moment ∷ past) more widths free = λ before n may size.
        let width = All-head (λ (m : List Bool). length m ≡ count net) moment past widths in
        step before 0 0 n Past (past_line moment) (map past_line past ++ more)
        (record { kind = refl; follows = may; words = words_are_bits moment; fault = λ n. width_is n (count net) moment width }) refl size
        (past_free past more (All-tail (λ (m : List Bool). length m ≡ count net) moment past widths) free (Some Past) (n + 1) refl (omega (arith, size)))

    start_fine : (before : Option ScheduleKind) (free : Bool) (bits : List Bool) → may_follow before Past ≡ true → length bits ≡ length net.latches → (free ≡ false → IsInitialState net bits)
        → IsFine before 0 (start_kind free) (start_word free ∷ bits_words bits)
    start_fine before free bits may width initial = grind (arith, start_behind_past, words_are_bits, width_is, start_is)

    gates_fine : (free : Bool) (bits : List Bool) → length bits ≡ length net.gates → IsFine (Some (start_kind free)) 0 Gates (codes "gates" ∷ bits_words bits)
    gates_fine free bits width = grind (arith, words_are_bits, width_is)

    start_free : (free : Bool) (latches gates : List Bool) (more : List (List (List ℕ))) → length latches ≡ length net.latches → length gates ≡ length net.gates → (free ≡ false → IsInitialState net latches)
        → FreeAt Tick 0 more → FreeAt Past 0 ((start_word free ∷ bits_words latches) ∷ ((codes "gates" ∷ bits_words gates) ∷ more))
    start_free free latches gates more width widths initial later before n may size =
        step before 0 0 n (start_kind free) (start_word free ∷ bits_words latches) ((codes "gates" ∷ bits_words gates) ∷ more) (start_fine before free latches may width initial) (by free) size
        (step (Some (start_kind free)) 0 0 (n + 1) Gates (codes "gates" ∷ bits_words gates) more (gates_fine free gates widths) refl (omega (arith, size))
        (later (Some Gates) (n + 1 + 1) refl (omega (arith, size))))
      where
        by : (free : Bool) → 0 ≡ cond (is_tick (start_kind free)) 1 0 + 0
        by free = grind arith

-- a written schedule has no fault
pub no_fault : (net : Parts) (schedule : Schedule) (end : ℕ) → IsNetlist net → FitsNetlist net (length schedule.ticks) schedule → IsSmall schedule.window → All (All (AreWritable net)) schedule.ticks
    → 1 + length (lines_of net schedule) ≡ end → first_fault net (length schedule.ticks) end [] (numbered 1 (lines_of net schedule)) ≡ None
no_fault net schedule end valid fits window good size =
    let ticks : ℕ = length schedule.ticks in
    let tick_part : List (List (List ℕ)) = flat_map (tick_lines net) schedule.ticks in
    let start : List (List ℕ) = start_word schedule.free ∷ bits_words schedule.latches in
    let gates : List (List ℕ) = codes "gates" ∷ bits_words schedule.gates in
    let past : List (List (List ℕ)) = map past_line schedule.past in
    let rest : List (List (List ℕ)) = past ++ (start ∷ (gates ∷ tick_part)) in
    let same : (past ++ (start ∷ (gates ∷ []))) ++ tick_part ≡ rest = append_assoc past (start ∷ (gates ∷ [])) tick_part in
    let width = ap length same in
    let window_word : List (List ℕ) = codes "window" ∷ decimal schedule.window ∷ [] in
    let format_word : List (List ℕ) = codes "schedule" ∷ codes "2" ∷ [] in
    let later : FreeAt net ticks end Tick 0 tick_part = ticks_free net ticks end valid 0 schedule.ticks (omega arith) good in
    let head : FreeAt net ticks end Past 0 rest =
    past_free net ticks end valid schedule.past (start ∷ (gates ∷ tick_part)) fits.past (start_free net ticks end valid schedule.free schedule.latches schedule.gates tick_part fits.latches fits.gates fits.start later) in
    step net ticks end None 0 0 1 FormatTwo format_word (window_word ∷ ((past ++ (start ∷ (gates ∷ []))) ++ tick_part))
    (record { kind = refl; follows = refl; words = refl; fault = λ n. refl }) refl (omega (arith, size))
    (step net ticks end (Some FormatTwo) 0 0 2 Window window_word ((past ++ (start ∷ (gates ∷ []))) ++ tick_part)
    (record { kind = refl; follows = refl; words = ap is_some (number_decimal schedule.window window); fault = λ n. refl }) refl (omega (arith, size))
    (subst (Free net ticks end (Some Window) 0 3) (sym same) (head (Some Window) 3 refl (omega (arith, size, width)))))
    [] (record { before = refl; begun = refl })
