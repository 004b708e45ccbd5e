-- The history that entries tell.
use Rattle.std.proofs.Common.{◌≡◌, ℕ, zero, suc, ◌+◌, ◌-◌, ◌<◌, ◌≤◌, Bool, false, List, [], ◌∷◌, ◌++◌, length, drop, get_or, set, refl, ap, ◌∙◌, arith, add-one}
use Rattle.delay_core.proofs.Common.{range_with_len, length-map, ext_get_or, get_or-map, get_or_read, length-range_with_len, get_or-range_with_len, moment_at, newest, value_from, history_of, WritesMoment, Told}
use Rattle.delay_core.specs.declared.entry.TimelineEntry.{TimelineEntry}
use Rattle.delay_core.specs.Entries.{entry_at, moment_of, entries_of, AreLinked, AreDated, Writes}
use Rattle.delay_core.specs.Timelines.{IsTimeline}
use Rattle.delay_core.proofs.EntryLemmas.{none, value-here, moment-later}

pub length-history : (entries : List TimelineEntry) (heads : List ℕ) (n : ℕ) → length (history_of entries heads n) ≡ n
length-history entries heads zero = refl
length-history entries heads (suc n) = ap suc (length-history entries heads n)

pub history-at : (entries : List TimelineEntry) (heads : List ℕ) (n age : ℕ) → age < n → moment_at (history_of entries heads n) age ≡ moment_of entries heads (n - age)
history-at entries heads zero age l = absurd (omega arith)
history-at entries heads (suc n) zero l = let e : suc n - 0 ≡ suc n = omega arith in rw e refl
history-at entries heads (suc n) (suc age) l = grind (arith, history-at entries heads n age)

pub history-same : (entries later : List TimelineEntry) (heads moved : List ℕ) (n : ℕ) → ((k : ℕ) → 1 ≤ k → k ≤ n → moment_of later moved k ≡ moment_of entries heads k) → history_of later moved n ≡ history_of entries heads n
history-same entries later heads moved zero same = refl
history-same entries later heads moved (suc n) same = grind (arith, history-same entries later heads moved n)

-- the newest moment
pub history-newest : (entries : List TimelineEntry) (heads : List ℕ) (n : ℕ) → 1 ≤ n → newest (history_of entries heads n) ≡ moment_of entries heads n
history-newest entries heads n l = history-at entries heads n 0 (omega arith) ∙ (let e : n - 0 ≡ n = omega arith in ap (moment_of entries heads) e)

-- one more moment, in which one signal is set
pub history-set : (entries later : List TimelineEntry) (heads moved : List ℕ) (n s : ℕ) (value : Bool) → IsTimeline entries heads n → Writes (n + 1) s value entries later heads moved → history_of later moved (n + 1) ≡ set (newest (history_of entries heads n)) s value ∷ history_of entries heads n
history-set entries later heads moved n s value is writes = grind (arith, moment-later entries heads n (n + 1) is.linked is.dated, history-newest entries heads n is.some, history-same entries later heads moved n, add-one)

-- one more moment, in which the first signals are set
pub history-push : (entries later : List TimelineEntry) (heads moved : List ℕ) (n : ℕ) (values : List Bool) → IsTimeline entries heads n → WritesMoment (n + 1) values entries later heads moved → history_of later moved (n + 1) ≡ (values ++ drop (length values) (newest (history_of entries heads n))) ∷ history_of entries heads n
history-push entries later heads moved n values is writes = grind (arith, moment-later entries heads n (n + 1) is.linked is.dated, history-newest entries heads n is.some, history-same entries later heads moved n, add-one)

-- ---- the first moment

module _ (values : List Bool) where
  abbrev first : Bool → TimelineEntry
  first b = record { moment = 1; value = b; older = 0; jump = 0; rank = 0 }

  first_at : (i : ℕ) → i < length values → entry_at (entries_of values) i ≡ first (get_or values i false)
  first_at i l = get_or-map first values i false none l

  abbrev heads : List ℕ
  heads = range_with_len 0 (length values)

  head_at : (s : ℕ) → s < length values → get_or heads s 0 ≡ s
  head_at s l = get_or-range_with_len 0 (length values) s 0 l ∙ omega arith

  pub size : length (entries_of values) ≡ length values
  size = length-map values first

  first_linked : AreLinked (entries_of values) heads
  first_linked =
      record {
        heads = λ s l.
            let k : s < length values = omega (arith, length-range_with_len 0 (length values)) in
            let at = head_at s k in omega (arith, size);
        older = λ i l later.
            let k : i < length values = omega (arith, size) in
            let never : 1 < 1 = rw (first_at i k) at later in absurd (omega arith);
        within = λ i l.
            let k : i < length values = omega (arith, size) in rw (first_at i k) (omega arith);
        back = λ i l later.
            let k : i < length values = omega (arith, size) in
            let never : 1 < 1 = rw (first_at i k) at later in absurd (omega arith);
        earlier = λ i l.
            let k : i < length values = omega (arith, size) in
            rw (first_at i k, first_at 0 (omega arith)) (omega arith);
        skips = λ i n l some before.
            let k : i < length values = omega (arith, size) in
            let never : n < 1 = rw (first_at i k, first_at 0 (omega arith)) at before in absurd (omega arith);
      }

  first_dated : AreDated (entries_of values) 1
  first_dated i l = grind (arith, size, first_at i)

  pub first_is : IsTimeline (entries_of values) heads 1
  first_is = record { some = omega arith; linked = first_linked; dated = first_dated }

  pub first_history : history_of (entries_of values) heads 1 ≡ values ∷ []
  first_history =
      ap (λ m. m ∷ [])
      (ext_get_or false (moment_of (entries_of values) heads 1) values
      (length-map heads (value_from (entries_of values) 1) ∙ length-range_with_len 0 (length values))
      (λ i l.
      let k : i < length values = omega (arith, length-map heads (value_from (entries_of values) 1), length-range_with_len 0 (length values)) in
      let here : (entry_at (entries_of values) i).moment ≤ 1 = rw (first_at i k) (omega arith) in
      get_or-map (value_from (entries_of values) 1) heads i 0 false (omega (arith, length-range_with_len 0 (length values)))
      ∙ ap (value_from (entries_of values) 1) (head_at i k)
      ∙ value-here (entries_of values) 1 i i here
      ∙ ap (λ (e : TimelineEntry). e.value) (first_at i k)))

-- ---- as a timeline reads it

pub width-told : (entries : List TimelineEntry) (heads : List ℕ) (n : ℕ) → 1 ≤ n → length (newest (history_of entries heads n)) ≡ length heads
width-told entries heads n l = ap length (history-newest entries heads n l) ∙ length-map heads (value_from entries n)

pub value-told : (entries : List TimelineEntry) (heads : List ℕ) (n s age head : ℕ) → s < length heads → age < n → head ≡ get_or heads s head → value_from entries (n - age) head ≡ get_or (moment_at (history_of entries heads n) age) s false
value-told entries heads n s age head signal l e = grind (arith, get_or_read heads s head signal e 0, get_or-map (value_from entries (n - age)) heads s 0 false signal, history-at entries heads n age l)

abbrev pub told_by : List TimelineEntry → List ℕ → ℕ → ℕ → Told
told_by entries heads n spare = record { history = history_of entries heads n; spare = spare }

pub told-age : (entries : List TimelineEntry) (heads : List ℕ) (n spare age : ℕ) (told : Told) → told_by entries heads n spare ≡ told → age < length told.history → age < n
told-age entries heads n spare age told e l = grind (arith, length-history entries heads n)

pub told-width : (entries : List TimelineEntry) (heads : List ℕ) (n spare : ℕ) (told : Told) → IsTimeline entries heads n → told_by entries heads n spare ≡ told → length (newest told.history) ≡ length heads
told-width entries heads n spare told is e = rw (← e) (width-told entries heads n is.some)
