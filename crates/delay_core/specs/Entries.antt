-- How the values of signals are kept over moments: an entry for each change, with the signal's entry before it.
use Rattle.std.specs.Prelude.{◌≡◌, ◌<◌, ◌≤◌, ℕ, zero, suc, nat_le, Bool, false, if◌then◌else◌, List, [], ◌∷◌, ◌++◌, length, map, drop, slice_index_or, slice_set}
use Rattle.schedules.specs.Moments.{Moment, History}
use Rattle.delay_core.specs.declared.entry.TimelineEntry.{TimelineEntry}

abbrev pub entry_at : List TimelineEntry → ℕ → TimelineEntry
entry_at entries i = slice_index_or entries i (record { moment = 0; value = false; older = 0; jump = 0; rank = 0 })

-- the value at the moment n of the signal whose newest entry is i, or `more` entries before: that of its newest entry
-- which came at n or before
abbrev pub value_by : ℕ → List TimelineEntry → ℕ → ℕ → Bool
value_by zero entries n i = false
value_by (suc more) entries n i =
    let entry = entry_at entries i in
    if nat_le entry.moment n then entry.value else value_by more entries n entry.older

abbrev pub value_from : List TimelineEntry → ℕ → ℕ → Bool
value_from entries n i = value_by (suc i) entries n i

-- the moment n, where these are the newest entries of the signals
abbrev pub moment_of : List TimelineEntry → List ℕ → ℕ → Moment
moment_of entries newest n = map (value_from entries n) newest

-- the moments 1 to n, the newest first
abbrev pub history_of : List TimelineEntry → List ℕ → ℕ → History
history_of entries newest zero = []
history_of entries newest (suc n) = moment_of entries newest (suc n) ∷ history_of entries newest n

-- each signal has an entry, each entry but those of the first moment has an older one, and each jumps to an older one of
-- its signal, from which all earlier values are the same
pub record AreLinked (entries : List TimelineEntry) (newest : List ℕ) : Type 0 where
  pub heads : (s : ℕ) → s < length newest → slice_index_or newest s 0 < length entries
  pub older : (i : ℕ) → i < length entries → 1 < (entry_at entries i).moment → (entry_at entries i).older < i
  pub within : (i : ℕ) → i < length entries → (entry_at entries i).jump ≤ i
  pub back : (i : ℕ) → i < length entries → 1 < (entry_at entries i).moment → (entry_at entries i).jump < i
  pub earlier : (i : ℕ) → i < length entries → (entry_at entries (entry_at entries i).jump).moment ≤ (entry_at entries i).moment
  pub skips : (i n : ℕ) → i < length entries → 1 ≤ n → n < (entry_at entries (entry_at entries i).jump).moment → value_from entries n (entry_at entries i).jump ≡ value_from entries n i

-- before its moment, all values are the same from this entry as from the one at `older`
pub record IsJump (entries : List TimelineEntry) (older jump : ℕ) : Type 0 where
  pub there : jump ≤ older
  pub skips : (n : ℕ) → 1 ≤ n → n < (entry_at entries jump).moment → value_from entries n jump ≡ value_from entries n older

-- no entry comes after the moment n
abbrev pub AreDated : List TimelineEntry → ℕ → Type 0
AreDated entries n = (i : ℕ) → i < length entries → (entry_at entries i).moment ≤ n

-- the signal s has this value from the moment m on; before it all is as it was
pub record Writes (m s : ℕ) (value : Bool) (entries later : List TimelineEntry) (newest moved : List ℕ) : Type 0 where
  pub linked : AreLinked later moved
  pub dated : AreDated later m
  pub width : length moved ≡ length newest
  pub before : (n : ℕ) → 1 ≤ n → n < m → moment_of later moved n ≡ moment_of entries newest n
  pub from : (n : ℕ) → 1 ≤ n → m ≤ n → moment_of later moved n ≡ slice_set (moment_of entries newest n) s value

-- from the moment m on the first signals have these values, and the others stay; before it all is as it was
pub record WritesMoment (m : ℕ) (values : List Bool) (entries later : List TimelineEntry) (newest moved : List ℕ) : Type 0 where
  pub linked : AreLinked later moved
  pub dated : AreDated later m
  pub width : length moved ≡ length newest
  pub before : (n : ℕ) → 1 ≤ n → n < m → moment_of later moved n ≡ moment_of entries newest n
  pub at : moment_of later moved m ≡ values ++ drop (length values) (moment_of entries newest m)

-- the entries of the first moment
abbrev pub entries_of : List Bool → List TimelineEntry
entries_of = map (λ b. record { moment = 1; value = b; older = 0; jump = 0; rank = 0 })
