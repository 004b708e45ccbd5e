-- What an entry more changes.
use Rattle.std.proofs.Common.{◌≡◌, inl, inr, ℕ, zero, suc, ◌+◌, ◌<◌, ◌≤◌, Bool, false, List, [], ◌∷◌, ◌++◌, length, map, drop, ◌-◌, get_or, set, refl, ap, ap₂, sym, ◌∙◌, arith}
use Rattle.delay_core.proofs.Common.{ext_get_or, length-set, length-map, get_or-map, get_or-set_other, cases_eq, cases_lt, value_from, WritesMoment}
use Rattle.std.proofs.lemmas.List.{append-nil, get_or-drop, get_or-append_right, length-append, length-drop, map-set, set-get_or, get_or_append_left, get_or-set_same, get_or_push, length_push}
use Rattle.std.proofs.lemmas.Bool.{le-leb, lt-leb}
use Rattle.delay_core.specs.declared.entry.TimelineEntry.{TimelineEntry}
use Rattle.delay_core.specs.Entries.{entry_at, value_by, moment_of, AreLinked, AreDated, IsJump, Writes}

abbrev pub none : TimelineEntry
none = record { moment = 0; value = false; older = 0; jump = 0; rank = 0 }

-- an entry that came at the moment or before it gives the value
pub value-here : (entries : List TimelineEntry) (n more i : ℕ) → (entry_at entries i).moment ≤ n → value_by (suc more) entries n i ≡ (entry_at entries i).value
value-here entries n more i l = rw (le-leb (entry_at entries i).moment n l) refl

-- one that came later leaves it to the older one
pub value-older : (entries : List TimelineEntry) (n more i : ℕ) → n < (entry_at entries i).moment → value_by (suc more) entries n i ≡ value_by more entries n (entry_at entries i).older
value-older entries n more i l = rw (lt-leb (entry_at entries i).moment n l) refl

-- more entries behind change nothing, nor how many are looked at, if they are enough
value-more : (entries rest : List TimelineEntry) (newest : List ℕ) (n f g i : ℕ) → AreLinked entries newest → 1 ≤ n → i < length entries → i < f → i < g → value_by f entries n i ≡ value_by g (entries ++ rest) n i
value-more entries rest newest n zero g i linked m l a b = absurd (omega arith)
value-more entries rest newest n (suc f) zero i linked m l a b = absurd (omega arith)
value-more entries rest newest n (suc f) (suc g) i linked m l a b =
    grind (arith, get_or_append_left entries rest none i l, cases_lt n (entry_at entries i).moment, value-older entries n f i, value-more entries rest newest n f g (entry_at entries i).older linked m, value-older (entries ++ rest) n g i, value-here entries n f i, value-here (entries ++ rest) n g i)

-- one step back, as a loop takes it
pub value_step : (entries : List TimelineEntry) (newest : List ℕ) (n i : ℕ) → AreLinked entries newest → 1 ≤ n → i < length entries → n < (entry_at entries i).moment → value_from entries n i ≡ value_from entries n (entry_at entries i).older
value_step entries newest n i linked m l later =
    let back : (entry_at entries i).older < i = linked.older i l (omega arith) in
    value-older entries n i i later
    ∙ same_by (entry_at entries i).older back
  where
    same_by : (j : ℕ) → j < i → value_by i entries n j ≡ value_by (suc j) entries n j
    same_by j k = grind (arith, value-more entries [] newest n i (suc j) j linked m, append-nil entries)

-- functions that agree at all members have one image
map-same : (f g : ℕ → Bool) (xs : List ℕ) → ((s : ℕ) → s < length xs → f (get_or xs s 0) ≡ g (get_or xs s 0)) → map f xs ≡ map g xs
map-same f g [] h = refl
map-same f g (x ∷ xs) h = ap₂ (λ y ys. y ∷ ys) (h 0 (omega arith)) (map-same f g xs (λ s l. h (suc s) (omega arith)))

module _ (entries : List TimelineEntry) (newest : List ℕ) (s m : ℕ) (value : Bool) (linked : AreLinked entries newest) (dated : AreDated entries m) (signal : s < length newest) (jump rank : ℕ) (jumps : IsJump entries (get_or newest s 0) jump) where
  abbrev entry : TimelineEntry
  entry = record { moment = m; value = value; older = get_or newest s 0; jump = jump; rank = rank }

  abbrev later : List TimelineEntry
  later = entries ++ entry ∷ []

  abbrev moved : List ℕ
  moved = set newest s (length entries)

  entry_is : entry_at later (length entries) ≡ entry
  entry_is = get_or_push entries entry none (length entries) refl

  heads_moved : (k : ℕ) → k < length moved → get_or moved k 0 < length later
  heads_moved k l = grind (arith, length_push entries entry, length-set newest s (length entries), cases_eq k s, get_or-set_same newest s (length entries) 0 signal, get_or-set_other newest s k (length entries) 0)

  older_moved : (i : ℕ) → i < length later → 1 < (entry_at later i).moment → (entry_at later i).older < i
  older_moved i l first =
      let long : length later ≡ length entries + 1 = length_push entries entry in
      elim (cases_lt i (length entries)) [
        | inl old ↦
            let same : entry_at later i ≡ entry_at entries i = get_or_append_left entries (entry ∷ []) none i old in
            rw same (linked.older i old (rw same at first))
        | inr new ↦
            let e : i ≡ length entries = omega arith in
            let here : (entry_at later (length entries)).older < length entries = rw entry_is (linked.heads s signal) in
            rw e here
      ]

  dated_moved : (i : ℕ) → i < length later → (entry_at later i).moment ≤ m
  dated_moved i l = grind (arith, length_push entries entry, cases_lt i (length entries), get_or_append_left entries (entry ∷ []) none i, entry_is)

  -- other signals keep their values
  others : (n : ℕ) → 1 ≤ n → map (value_from later n) newest ≡ moment_of entries newest n
  others n l =
      map-same (value_from later n) (value_from entries n) newest
      (λ k k_in.
      let head : get_or newest k 0 < length entries = linked.heads k k_in in
      sym (value-more entries (entry ∷ []) newest n (suc (get_or newest k 0)) (suc (get_or newest k 0)) (get_or newest k 0) linked l head (omega arith) (omega arith)))

  set_at_later : (n : ℕ) → 1 ≤ n → moment_of later moved n ≡ set (moment_of entries newest n) s (value_from later n (length entries))
  set_at_later n l = grind (arith, map-set (value_from later n) newest s (length entries), others n l)

  before_moved : (n : ℕ) → 1 ≤ n → n < m → moment_of later moved n ≡ moment_of entries newest n
  before_moved n l earlier =
      let head : get_or newest s 0 < length entries = linked.heads s signal in
      let is_later : n < (entry_at later (length entries)).moment = rw entry_is earlier in
      let old : value_from later n (length entries) ≡ value_from entries n (get_or newest s 0) =
      value-older later n (length entries) (length entries) is_later
      ∙ ap (λ (e : TimelineEntry). value_by (length entries) later n e.older) entry_is
      ∙ sym (value-more entries (entry ∷ []) newest n (suc (get_or newest s 0)) (length entries) (get_or newest s 0) linked l head (omega arith) head) in
      let at : get_or (moment_of entries newest n) s false ≡ value_from entries n (get_or newest s 0) =
      get_or-map (value_from entries n) newest s 0 false signal in
      set_at_later n l ∙ ap (λ b. set (moment_of entries newest n) s b) (old ∙ sym at) ∙ set-get_or (moment_of entries newest n) s false

  from_moved : (n : ℕ) → 1 ≤ n → m ≤ n → moment_of later moved n ≡ set (moment_of entries newest n) s value
  from_moved n l here =
      let is_here : (entry_at later (length entries)).moment ≤ n = rw entry_is here in
      grind (arith, value-here later n (length entries) (length entries) is_here, entry_is, set_at_later n l)

  long_later : length later ≡ length entries + 1
  long_later = length_push entries entry

  old_at : (i : ℕ) → i < length entries → entry_at later i ≡ entry_at entries i
  old_at i old = get_or_append_left entries (entry ∷ []) none i old

  old_value : (n i : ℕ) → 1 ≤ n → i < length entries → value_from later n i ≡ value_from entries n i
  old_value n i some old = sym (value-more entries (entry ∷ []) newest n (suc i) (suc i) i linked some old (omega arith) (omega arith))

  jump_is : jump < length entries
  jump_is = let head = linked.heads s signal in let l = jumps.there in omega arith

  within_moved : (i : ℕ) → i < length later → (entry_at later i).jump ≤ i
  within_moved i l = grind (arith, cases_lt i (length entries), old_at i, long_later, entry_is, jump_is)

  back_moved : (i : ℕ) → i < length later → 1 < (entry_at later i).moment → (entry_at later i).jump < i
  back_moved i l first =
      elim (cases_lt i (length entries)) [
        | inl old ↦ rw (old_at i old) (linked.back i old (rw (old_at i old) at first))
        | inr new ↦
            let e : i ≡ length entries = omega (arith, long_later) in
            let here : (entry_at later (length entries)).jump < length entries = rw entry_is jump_is in
            rw e here
      ]

  earlier_moved : (i : ℕ) → i < length later → (entry_at later (entry_at later i).jump).moment ≤ (entry_at later i).moment
  earlier_moved i l = grind (arith, cases_lt i (length entries), old_at i, old_at (entry_at entries i).jump, long_later, old_at jump jump_is, jump_is, entry_is)

  new_value : (n : ℕ) → 1 ≤ n → n < m → value_from later n (length entries) ≡ value_from entries n (get_or newest s 0)
  new_value n some earlier =
      let head : get_or newest s 0 < length entries = linked.heads s signal in
      let is_later : n < (entry_at later (length entries)).moment = rw entry_is earlier in
      grind (arith, value-older later n (length entries) (length entries) is_later, entry_is, value-more entries (entry ∷ []) newest n (suc (get_or newest s 0)) (length entries) (get_or newest s 0) linked some head)

  skips_new : (n : ℕ) → 1 ≤ n → n < (entry_at later jump).moment → value_from later n jump ≡ value_from later n (length entries)
  skips_new n some before = grind (arith, old_at jump jump_is, jump_is, old_value n jump some jump_is, new_value n some)

  skips_moved : (i n : ℕ) → i < length later → 1 ≤ n → n < (entry_at later (entry_at later i).jump).moment → value_from later n (entry_at later i).jump ≡ value_from later n i
  skips_moved i n l some before =
      elim (cases_lt i (length entries)) [
        | inl old ↦
            let near = linked.within i old in
            let place : ℕ = (entry_at entries i).jump in
            let at : (entry_at later i).jump ≡ place = ap (λ (e : TimelineEntry). e.jump) (old_at i old) in
            let is : n < (entry_at entries place).moment = rw (at, old_at place (omega arith)) at before in
            ap (value_from later n) at ∙ old_value n place some (omega arith) ∙ linked.skips i n old some is ∙ sym (old_value n i some old)
        | inr new ↦
            let e : i ≡ length entries = omega (arith, long_later) in
            let at : (entry_at later i).jump ≡ jump = ap (λ (k : ℕ). (entry_at later k).jump) e ∙ ap (λ (x : TimelineEntry). x.jump) entry_is in
            let is : n < (entry_at later jump).moment = rw at at before in
            ap (value_from later n) at ∙ skips_new n some is ∙ ap (value_from later n) (sym e)
      ]

  pub writes : Writes m s value entries later newest moved
  writes = grind (arith, heads_moved, older_moved, within_moved, back_moved, earlier_moved, skips_moved, dated_moved, length-set newest s (length entries), before_moved, from_moved)

-- where no entry comes after the moment m, all later moments are as that one
pub moment-later : (entries : List TimelineEntry) (newest : List ℕ) (m n : ℕ) → AreLinked entries newest → AreDated entries m → m ≤ n → moment_of entries newest n ≡ moment_of entries newest m
moment-later entries newest m n linked dated l = grind (arith, map-same (value_from entries n) (value_from entries m) newest, value-here entries n, value-here entries m)

-- a signal that has the value already needs no entry
pub writes_same : (entries : List TimelineEntry) (newest : List ℕ) (s m : ℕ) (value : Bool) → AreLinked entries newest → AreDated entries m → 1 ≤ m → s < length newest → value_from entries m (get_or newest s 0) ≡ value → Writes m s value entries entries newest newest
writes_same entries newest s m value linked dated first signal e = grind (arith, moment-later entries newest m, get_or-map (value_from entries m) newest s 0 false signal, set-get_or)

-- the first k signals have these values from the moment m on; before it all is as it was
pub record WritesFront (m k : ℕ) (values : List Bool) (entries later : List TimelineEntry) (newest moved : List ℕ) : Type 0 where
  pub linked : AreLinked later moved
  pub dated : AreDated later m
  pub width : length moved ≡ length newest
  pub before : (n : ℕ) → 1 ≤ n → n < m → moment_of later moved n ≡ moment_of entries newest n
  pub front : (i : ℕ) → i < k → get_or (moment_of later moved m) i false ≡ get_or values i false
  pub rest : (i : ℕ) → k ≤ i → get_or (moment_of later moved m) i false ≡ get_or (moment_of entries newest m) i false

front-at : (m k : ℕ) (values : List Bool) (entries later last : List TimelineEntry) (newest moved final : List ℕ) → 1 ≤ m → k < length newest → WritesFront m k values entries later newest moved → Writes m k (get_or values k false) later last moved final → (i : ℕ) → i < k + 1 → get_or (moment_of last final m) i false ≡ get_or values i false
front-at m k values entries later last newest moved final first l before more i il =
    grind (arith, length-map moved (value_from later m), cases_eq i k, get_or-set_same (moment_of later moved m) k (get_or values k false) false, get_or-set_other (moment_of later moved m) k i (get_or values k false) false)

rest-at : (m k : ℕ) (values : List Bool) (entries later last : List TimelineEntry) (newest moved final : List ℕ) → 1 ≤ m → WritesFront m k values entries later newest moved → Writes m k (get_or values k false) later last moved final → (i : ℕ) → k + 1 ≤ i → get_or (moment_of last final m) i false ≡ get_or (moment_of entries newest m) i false
rest-at m k values entries later last newest moved final first before more i il = grind (arith, get_or-set_other (moment_of later moved m) k i (get_or values k false) false)

pub front-more : (m k : ℕ) (values : List Bool) (entries later last : List TimelineEntry) (newest moved final : List ℕ) → 1 ≤ m → k < length newest → WritesFront m k values entries later newest moved → Writes m k (get_or values k false) later last moved final → WritesFront m (k + 1) values entries last newest final
front-more m k values entries later last newest moved final first l before more = grind (arith, front-at m k values entries later last newest moved final first l before more, rest-at m k values entries later last newest moved final first before more)

-- what stands in a list whose first values are replaced
replaced-at : (values old : List Bool) (i : ℕ) (b : Bool) → (i < length values → b ≡ get_or values i false) → (length values ≤ i → b ≡ get_or old i false) → b ≡ get_or (values ++ drop (length values) old) i false
replaced-at values old i b front rest =
    grind (arith, cases_lt i (length values), get_or_append_left values (drop (length values) old) false i, get_or-drop (length values) old (i - length values) false, get_or-append_right values (drop (length values) old) (length values) i false)

pub front-all : (m : ℕ) (values : List Bool) (entries later : List TimelineEntry) (newest moved : List ℕ) → length values ≤ length newest → WritesFront m (length values) values entries later newest moved → WritesMoment m values entries later newest moved
front-all m values entries later newest moved size all =
    let old : List Bool = moment_of entries newest m in
    let long : length old ≡ length newest = length-map newest (value_from entries m) in
    let width : length (moment_of later moved m) ≡ length newest = length-map moved (value_from later m) ∙ all.width in
    let replaced : length (values ++ drop (length values) old) ≡ length newest =
    omega (arith, length-append values (drop (length values) old), length-drop (length values) old) in
    record {
      linked = all.linked;
      dated = all.dated;
      width = all.width;
      before = all.before;
      at = ext_get_or false (moment_of later moved m) (values ++ drop (length values) old) (width ∙ sym replaced)
          (λ i l. replaced-at values old i (get_or (moment_of later moved m) i false) (all.front i) (all.rest i));
    }
