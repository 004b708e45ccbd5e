-- The events of a round, packed: what is at a place, and one event more.
use Rattle.std.proofs.Common.{◌≡◌, ◌+◌, ◌-◌, ◌<◌, ◌≤◌, ◌==◌, ℕ, suc, Bool, false, List, [], ◌∷◌, ◌++◌, drop, length, map, get_or, ap, sym, ◌∙◌, arith, length-append, length-drop}
use Rattle.std.specs.Prelude.{slice_range, if◌then◌else◌}
use Rattle.delay_core.proofs.Common.{range_with_len, cases_lt, get_or_default, ext_get_or, PlannedEvent}
use Rattle.std.proofs.Math.Seq.{get_or-append_seam, drop-append_seam, take-length}
use Rattle.std.proofs.lemmas.List.{get_or_append_left, take-append-le, drop-append-le}
use Rattle.std.proofs.lemmas.List.FromFn.{length-map-range_with_len, get_or-map-range_with_len, map-range_with_len_more}
use Rattle.delay_core.specs.declared.events.Head.{Head}
use Rattle.delay_core.specs.EventLists.{planned_at, head_at, begin_of, packed_event, packed_events, ArePacked}

pub length_packed : (heads : List Head) (ages : List ℕ) → length (packed_events heads ages) ≡ length heads
length_packed heads ages = length-map-range_with_len (packed_event heads ages) 0 (length heads)

pub packed_at : (heads : List Head) (ages : List ℕ) (i : ℕ) → i < length heads → planned_at (packed_events heads ages) i ≡ packed_event heads ages i
packed_at heads ages i short = get_or-map-range_with_len (packed_event heads ages) 0 (length heads) i i _ short (omega arith)

-- what code reads of a head

pub begin_is : (heads : List Head) (i : ℕ) (head : Head) → i < length heads → (i == 0) ≡ false → head ≡ get_or heads (i - 1) head → head.end ≡ begin_of heads i
begin_is heads i head short some is =
    ap (λ (h : Head). h.end) (is ∙ get_or_default heads (i - 1) head _ (omega arith))
    ∙ sym (ap (λ (t : Bool). if t then 0 else (head_at heads (i - 1)).end) some)

module _ (heads : List Head) (ages : List ℕ) (i : ℕ) (head : Head) (short : i < length heads) (is : head ≡ get_or heads i head) where
  head_is : head ≡ head_at heads i
  head_is = is ∙ get_or_default heads i head _ short

  pub line_is : head.line ≡ (planned_at (packed_events heads ages) i).line
  line_is = ap (λ (h : Head). h.line) head_is ∙ sym (ap (λ (p : PlannedEvent). p.line) (packed_at heads ages i short))

  pub gate_is : head.gate ≡ (planned_at (packed_events heads ages) i).event.gate
  gate_is = ap (λ (h : Head). h.gate) head_is ∙ sym (ap (λ (p : PlannedEvent). p.event.gate) (packed_at heads ages i short))

  pub ages_is : (from : ℕ) → from ≡ begin_of heads i → slice_range ages from head.end ≡ (planned_at (packed_events heads ages) i).event.ages
  ages_is from begins = grind (arith, head_is, packed_at heads ages i short)

  pub rises_here : (from : ℕ) → ArePacked heads ages → from ≡ begin_of heads i → from ≤ head.end
  rises_here from are begins = let low = are.rises i short in omega (arith, low, begins, ap (λ (h : Head). h.end) head_is)

  pub within_here : ArePacked heads ages → head.end ≤ length ages
  within_here are = let high = are.within i short in omega (arith, high, ap (λ (h : Head). h.end) head_is)

begin_later : (heads : List Head) (i : ℕ) → begin_of heads (suc i) ≡ (head_at heads i).end
begin_later heads i = grind arith

-- the events at the first places, by a function that is the same there
same_map : (f g : ℕ → PlannedEvent) (n : ℕ) → ((i : ℕ) → i < n → f i ≡ g i) → map f (range_with_len 0 n) ≡ map g (range_with_len 0 n)
same_map f g n same =
    let none : PlannedEvent = planned_at [] 0 in
    ext_get_or none (map f (range_with_len 0 n)) (map g (range_with_len 0 n))
    (length-map-range_with_len f 0 n ∙ sym (length-map-range_with_len g 0 n))
    (λ i l.
    let short : i < n = omega (arith, l, length-map-range_with_len f 0 n) in
    let e : 0 + i ≡ i = omega arith in
    get_or-map-range_with_len f 0 n i i none short e ∙ same i short ∙ sym (get_or-map-range_with_len g 0 n i i none short e))

-- a part of a list, where the list goes on
part_before : (ages more : List ℕ) (from to : ℕ) → from ≤ to → to ≤ length ages → slice_range (ages ++ more) from to ≡ slice_range ages from to
part_before ages more from to low high = grind (arith, drop-append-le from ages more, take-append-le (to - from) (drop from ages) more, length-drop from ages)

part_behind : (ages more : List ℕ) (from to : ℕ) → from ≡ length ages → to ≡ length ages + length more → slice_range (ages ++ more) from to ≡ more
part_behind ages more from to begins ends = grind (arith, drop-append_seam ages more, take-length more)

module _ (heads : List Head) (ages : List ℕ) (are : ArePacked heads ages) (head : Head) (more : List ℕ) (ends : head.end ≡ length ages + length more) where
  abbrev longer : List Head
  longer = heads ++ head ∷ []

  abbrev longer_ages : List ℕ
  longer_ages = ages ++ more

  size : length longer ≡ length heads + 1
  size = length-append heads (head ∷ [])

  head_before : (i : ℕ) → i < length heads → head_at longer i ≡ head_at heads i
  head_before i short = get_or_append_left heads (head ∷ []) _ i short

  head_last : head_at longer (length heads) ≡ head
  head_last = get_or-append_seam heads head [] _

  begin_before : (i : ℕ) → i ≤ length heads → begin_of longer i ≡ begin_of heads i
  begin_before i l = grind (arith, begin_later, head_before)

  begin_last : begin_of longer (length heads) ≡ length ages
  begin_last = begin_before (length heads) (omega arith) ∙ are.whole

  begin_end : begin_of longer (length longer) ≡ length longer_ages
  begin_end = grind (arith, size, begin_later longer (length heads), head_last, length-append ages more)

  event_before : (i : ℕ) → i < length heads → packed_event longer longer_ages i ≡ packed_event heads ages i
  event_before i short = grind (arith, begin_before i, head_before i short, part_before ages more (begin_of heads i) (head_at heads i).end (are.rises i short) (are.within i short))

  abbrev added : PlannedEvent
  added = record { line = head.line; event = record { gate = head.gate; ages = more } }

  event_last : packed_event longer longer_ages (length heads) ≡ added
  event_last =
      let made : Head → PlannedEvent = λ h. record { line = h.line; event = record { gate = h.gate; ages = slice_range longer_ages (begin_of longer (length heads)) h.end } } in
      let whole : List ℕ → PlannedEvent = λ xs. record { line = head.line; event = record { gate = head.gate; ages = xs } } in
      ap made head_last ∙ ap whole (part_behind ages more (begin_of longer (length heads)) head.end begin_last ends)

  pub one_more : packed_events longer longer_ages ≡ packed_events heads ages ++ added ∷ []
  one_more =
      let f : ℕ → PlannedEvent = packed_event longer longer_ages in
      grind (arith, size, map-range_with_len_more f 0 (length heads) (length heads), same_map f (packed_event heads ages) (length heads) event_before, event_before, event_last)

  pub more_packed : ArePacked longer longer_ages
  more_packed = grind (arith, cases_lt, begin_before, head_before, size, begin_last, head_last, length-append ages more, begin_end)
