-- A schedule whose lines have no fault fits the netlist and the number of ticks.
use Rattle.std.proofs.Common.{◌≡◌, ◌≤◌, ◌<◌, ℕ, ◌+◌, ◌||◌, Bool, true, false, not, cond, List, [], ◌∷◌, ◌++◌, All, length, map, Some, None, Ok, sym, subst, arith, eqb-true, true≢false}
use Rattle.sched_text.proofs.Common.{Option, if◌then◌else◌, option_map, length-map, All-nil, sum_by-cons, Latch, Parts, PlannedEvent, RoundPlan, Schedule, Line, SchedFault, BadLine, WrongWidth, kind, is_tick, lacks_lines, arguments, bits_of, permits, first_refused, nearest, begins_tick, ticks_begun, is_cut_off, fault_at_end, first_fault, statement, schedule, Draft, new_draft, follow, ended, IsOfGates, AreOfGates, FitsNetlist}
use Rattle.std.specs.Prelude.{◌&&◌, ◌==◌, nat_lt, option_to_list}
use Rattle.std.specs.List.{AllZip}
use Rattle.std.proofs.lemmas.Bool.{and_parts, false≢true, ltb-true}
use Rattle.std.proofs.Math.Bool.{or-true}
use Rattle.cyc_base.proofs.ListLemmas.{All-but_last, option_map-nothing, option_or-neither}
use Rattle.std.proofs.lemmas.List.{length-append}
use Rattle.std.proofs.lemmas.List.Elements.{All-push}
use Rattle.std.proofs.lemmas.List.Quantifiers.{position-Some}
use Rattle.netlist.specs.declared.parts.Init.{Init}
use Rattle.netlist.specs.Netlists.{count}
use Rattle.netlist.specs.Fixpoint.{Permits, IsInitialState}
use Rattle.sched_text.specs.declared.fault.SchedFault.TheVariants.{TickCount}
use Rattle.sched_text.specs.declared.kind.ScheduleKind.{ScheduleKind}
use Rattle.sched_text.specs.declared.kind.ScheduleKind.TheVariants as kinds
use Rattle.sched_text.specs.Kinds.{is_of_a_tick, may_follow}
use Rattle.sched_text.specs.LineFaults.{has_words_of, width_fault, start_fault, gate_fault, tick_fault, fault_of_kind, fault_of_words, line_fault}
use Rattle.sched_text.specs.Statements.{gate_of, planned, statement_of}
use Rattle.sched_text.specs.Schedules.{schedule_of}
use Rattle.sched_text.specs.Running.{OpenTick, ended_tick, ended_ticks, with_event, begin_round, add_event}
use Rattle.sched_text.proofs.ScheduleLemmas.{whole_end, whole_step}
use Rattle.sched_text.specs.ReadingOn.{whole}
use Rattle.sched_text.proofs.VectorLemmas.{no_fault, as_meant}

-- ---- the ticks so far, the one in progress among them

record FitTicks (gates ticks begun : ℕ) (found : List (List RoundPlan)) : Type 0 where
  events : All (All (AreOfGates gates)) found
  count : length found ≡ begun
  few : begun ≤ ticks

-- the tick in progress goes on
tick_goes_on : (gates ticks begun : ℕ) (done : List (List RoundPlan)) (tick : Option OpenTick) (f : OpenTick → OpenTick)
    → ((t : OpenTick) → All (AreOfGates gates) (ended_tick t) → All (AreOfGates gates) (ended_tick (f t)))
    → FitTicks gates ticks begun (done ++ option_to_list (option_map ended_tick tick))
    → FitTicks gates ticks (0 + begun) (done ++ option_to_list (option_map ended_tick (option_map f tick)))
tick_goes_on gates ticks begun done None f keeps at = record { events = at.events; count = omega arith; few = omega arith }
tick_goes_on gates ticks begun done (Some t) f keeps at =
    let parts = All-but_last (All (AreOfGates gates)) done (ended_tick t) at.events in
    let before = length-append done (ended_tick t ∷ []) in
    let now = length-append done (ended_tick (f t) ∷ []) in
    record {
      events = All-push (All (AreOfGates gates)) done (ended_tick (f t)) parts.0 (keeps t parts.1);
      count = omega arith;
      few = omega arith;
    }

event_added : (gates : ℕ) (event : PlannedEvent) → IsOfGates gates event → (tick : OpenTick) → All (AreOfGates gates) (ended_tick tick) → All (AreOfGates gates) (ended_tick (add_event event tick))
event_added gates event inside tick good = by tick.round good
  where
    by : (round : Option RoundPlan) → All (AreOfGates gates) (tick.rounds ++ option_to_list round) → All (AreOfGates gates) (tick.rounds ++ option_to_list (option_map (with_event event) round))
    by None good = good
    by (Some round) good = grind (arith, All-but_last (AreOfGates gates) tick.rounds round good, All-push (AreOfGates gates) tick.rounds (with_event event round), All-push (IsOfGates gates) round.events event)

-- ---- what is known behind a line of each kind

abbrev is_start : Option ScheduleKind → Bool
is_start (Some kinds.Latches) = true
is_start (Some kinds.State) = true
is_start before = false

-- what the latches start with was told
abbrev has_start : Option ScheduleKind → Bool
has_start before = is_start before || not (lacks_lines before)

record FitStart (net : Parts) (free : Bool) (latches : List Bool) : Type 0 where
  width : length latches ≡ length net.latches
  permitted : free ≡ false → IsInitialState net latches

record FitsSoFar (net : Parts) (ticks : ℕ) (before : Option ScheduleKind) (begun : ℕ) (draft : Draft) : Type 0 where
  past : All (λ moment. length moment ≡ count net) draft.past
  start : has_start before ≡ true → FitStart net draft.free draft.latches
  gates : lacks_lines before ≡ false → length draft.gates ≡ length net.gates
  ticks_so_far : FitTicks (length net.gates) ticks begun (ended_ticks draft)

started : (before : Option ScheduleKind) → may_follow before kinds.Gates ≡ true → has_start before ≡ true
started before may = grind arith

-- a line of a tick stands behind a whole head
pub head_before : (k : ScheduleKind) → is_of_a_tick k ≡ true → (before : Option ScheduleKind) → may_follow before k ≡ true → lacks_lines before ≡ false
head_before k of before may = grind arith

-- the head is whole, so the start was told
start_in_head : (before : Option ScheduleKind) → lacks_lines before ≡ false → has_start before ≡ true
start_in_head before whole = rw whole (or-true (is_start before))

-- ---- what a line without a fault says

-- a test that is passed, where a fault stands behind it
passes : {X : Type 0} (t : Bool) (later : Option X) (fault : X) → (if t then later else Some fault) ≡ None → (t ≡ true) × (later ≡ None)
passes t later fault none = grind arith

width_is : (n width : ℕ) (bits : List Bool) → width_fault n width bits ≡ None → length bits ≡ width
width_is n width bits none = eqb-true (length bits) width (passes (length bits == width) None (WrongWidth n) none).0

permitted : (init : Init) (b : Bool) → permits init b ≡ true → Permits init b
permitted init b is = grind arith

-- no latch is refused
all_permitted : (i : ℕ) (latches : List Latch) (bits : List Bool) → length bits ≡ length latches → first_refused i latches bits ≡ None
    → AllZip (λ latch. Permits latch.init) latches bits
all_permitted i [] [] same none = tt
all_permitted i [] (b ∷ bits) same none = absurd (omega (arith, same))
all_permitted i (latch ∷ latches) [] same none = absurd (omega (arith, same))
all_permitted i (latch ∷ latches) (b ∷ bits) same none = grind (arith, passes, permitted, all_permitted (i + 1) latches bits)

initial : (net : Parts) (n : ℕ) (bits : List Bool) → length bits ≡ length net.latches → start_fault n net.latches bits ≡ None → IsInitialState net bits
initial net n bits same none = all_permitted 0 net.latches bits same (option_map-nothing (SchedFault.BadStart n) (first_refused 0 net.latches bits) none)

gate_inside : (net : Parts) (n : ℕ) (words : List (List ℕ)) → has_words_of kinds.Event words ≡ true → gate_fault net n words ≡ None → gate_of net words < length net.gates
gate_inside net n [] good none = absurd (cc good)
gate_inside net n (name ∷ ages) good none = grind (arith, position-Some, length-map)

tick_fits : (n ticks begun : ℕ) → tick_fault n ticks begun ≡ None → begun < ticks
tick_fits n ticks begun none = ltb-true begun ticks (passes (nat_lt begun ticks) None (TickCount n) none).0

-- ---- a line behind others

module _ (net : Parts) (ticks : ℕ) (before : Option ScheduleKind) (begun : ℕ) (draft : Draft) (n : ℕ) (words : List (List ℕ)) (at : FitsSoFar net ticks before begun draft) where
  abbrev now : ScheduleKind → Draft
  now k = follow draft (statement_of net k n words)

  past_next : (k : ScheduleKind) → fault_of_kind net ticks k n begun words ≡ None → All (λ moment. length moment ≡ count net) (now k).past
  past_next kinds.Past none = All-push (λ moment. length moment ≡ count net) draft.past (bits_of words) at.past (width_is n (count net) (bits_of words) none)
  past_next k none = at.past

  start_next : (k : ScheduleKind) → may_follow before k ≡ true → fault_of_kind net ticks k n begun words ≡ None → has_start (Some k) ≡ true → FitStart net (now k).free (now k).latches
  start_next k may none told = grind (arith, option_or-neither, width_is, permitted, initial, started, start_in_head, head_before)

  gates_next : (k : ScheduleKind) → may_follow before k ≡ true → fault_of_kind net ticks k n begun words ≡ None → lacks_lines (Some k) ≡ false → length (now k).gates ≡ length net.gates
  gates_next k may none whole = grind arith

  ticks_next : (k : ScheduleKind) → has_words_of k words ≡ true → fault_of_kind net ticks k n begun words ≡ None
      → FitTicks (length net.gates) ticks (cond (is_tick k) 1 0 + begun) (ended_ticks (now k))
  ticks_next kinds.Tick good none =
      let held = at.ticks_so_far in
      let less = tick_fits n ticks begun none in
      let longer = length-append (ended_ticks draft) ([] ∷ []) in
      record {
        events = All-push (All (AreOfGates (length net.gates))) (ended_ticks draft) [] held.events (All-nil (AreOfGates (length net.gates)));
        count = omega arith;
        few = omega arith;
      }
  ticks_next kinds.Round good none = grind (arith, tick_goes_on (length net.gates) ticks begun draft.ticks draft.tick (begin_round n), All-push (AreOfGates (length net.gates)), All-nil (IsOfGates (length net.gates)))
  ticks_next kinds.Event good none =
      tick_goes_on (length net.gates) ticks begun draft.ticks draft.tick (add_event (planned net n words))
      (event_added (length net.gates) (planned net n words) (gate_inside net n words good none)) at.ticks_so_far
  ticks_next k good none = let held = at.ticks_so_far in record { events = held.events; count = omega arith; few = omega arith }

  fits_next : (k : ScheduleKind) → may_follow before k ≡ true → fault_of_words net ticks k n begun words ≡ None → FitsSoFar net ticks (Some k) (cond (is_tick k) 1 0 + begun) (now k)
  fits_next k may none = grind (arith, passes, past_next, start_next, gates_next, ticks_next)

-- ---- the end, and all lines

fits_end : (net : Parts) (ticks end : ℕ) (before : Option ScheduleKind) (begun : ℕ) (draft : Draft)
    → FitsSoFar net ticks before begun draft → fault_at_end ticks end before begun ≡ None → FitsNetlist net ticks (ended draft)
fits_end net ticks end before begun draft at none = grind arith

fits_on : (net : Parts) (ticks end : ℕ) (earlier rest : List Line) (draft : Draft)
    → FitsSoFar net ticks (nearest earlier) (ticks_begun earlier) draft → first_fault net ticks end earlier rest ≡ None
    → FitsNetlist net ticks (whole draft (map (statement net) rest))
fits_on net ticks end earlier [] draft at none = grind (arith, whole_end, fits_end)
fits_on net ticks end earlier (line ∷ rest) draft at none =
    let k = kind line in
    let cut = is_cut_off end line rest in
    let words = arguments line.words in
    let begun = ticks_begun earlier in
    let neither = option_or-neither (line_fault net ticks end earlier line rest) (first_fault net ticks end (line ∷ earlier) rest) none in
    let here = passes (may_follow (nearest earlier) k && not cut) (fault_of_words net ticks k line.number begun words) (BadLine line.number) neither.0 in
    let may = and_parts (may_follow (nearest earlier) k) (not cut) here.0 in
    let P : ℕ → Type 0 = λ m. FitsSoFar net ticks (Some k) m (follow draft (statement net line)) in
    let next = subst P (sym (sum_by-cons (λ l. cond (begins_tick l) 1 0) line earlier)) (fits_next net ticks (nearest earlier) begun draft line.number words at k may.0 here.1) in
    grind (arith, whole_step draft (statement net line) (map (statement net) rest), fits_on net ticks end (line ∷ earlier) rest (follow draft (statement net line)) next neither.1)

pub fits : (net : Parts) (ticks end : ℕ) (lines : List Line) (found : Schedule) → schedule net ticks end lines ≡ Ok found → FitsNetlist net ticks found
fits net ticks end lines found is =
    let meant = schedule_of (map (statement net) lines) in
    let fault = first_fault net ticks end [] lines in
    grind (arith, as_meant fault meant found is, fits_on net ticks end [] lines new_draft, All-nil, false≢true, true≢false, All-nil (All (AreOfGates (length net.gates))), no_fault fault meant found is)
