-- The joined netlist is a netlist.
use Rattle.std.proofs.Common.{◌≡◌, inl, inr, ℕ, zero, suc, ◌+◌, ◌-◌, ◌<◌, ◌≤◌, false, List, [], ◌∷◌, ◌++◌, length, map, get_or, All, Option, None, IfSome, refl, sym, ap, subst, ◌∙◌, arith}
use Rattle.miters.proofs.Common.{IsDistinct, list_any, range_with_len, option_map_or, bytes_eq, cases_lt, or_parts, append_assoc, map-append, length-append, length-map, get_or-map, get_or_default, get_or_append_left, get_or-append-add, get_or-append_right, map-map, column_names, All-map, All-append, All-cons, All-nil, list_any-append, length-range_with_len, get_or-range_with_len, length-map-range_with_len, get_or-map-range_with_len, Sig, Gate, Latch, Parts, count, signal, gate_at, no_gate, signal_names, driven_names, IsSignal, IsNetlist, mark, Pair, IsPairOf, unmatched, columns_by_name, moved, moved_gate_by, moved_gates, joined, joined_pairs, link_gate, miter_gates, no_pair, last_gate, miter, length-column_names, IsBlifName, list_any-map}
use Rattle.std.specs.List.{AllByRecursion}
use Rattle.std.proofs.lemmas.Bool.{or_from}
use Rattle.std.proofs.lemmas.List.Elements.{All-from_get_or, recursion_from_All}
use Rattle.netlist.specs.Netlists.{is_driven, IsClockName}
use Rattle.unroll.specs.Marks.{longest_run_in, clock_names, copy_name}
use Rattle.miters.specs.Joined.{more_name, never_gate}
use Rattle.std.proofs.lemmas.Map.Made.{IsDistinct-from_AllPairs}
use Rattle.std.proofs.lemmas.Slice.Eq.{bytes_eq-Decides}
use Rattle.care_sets.proofs.NameLemmas.{length-names, names_split}
use Rattle.cyc_base.specs.Tildes.{longest_run, longest_run_of}
use Rattle.cyc_base.proofs.TildeLemmas.{longest-append}
use Rattle.netlist.specs.declared.parts.Clock.{Clock}
use Rattle.unroll.proofs.NameLemmas.{copy_is_long, copy_names_tell, copy_name_fits, all_short, distinct_append, short_from_long, short_is_none}
use Rattle.miters.proofs.MatchLemmas.{matched}
use Rattle.miters.proofs.JoinLemmas.{length-moved, length-joined, moved_within}
use Rattle.miters.proofs.LatchlessLemmas.{nothing_twice}
use Rattle.miters.proofs.MiterLemmas.{length-told}
use Rattle.miters.proofs.ComparisonLemmas.{pairs_joined}

abbrev names_of : List Gate → List (List ℕ)
names_of gates = map (λ gate. gate.name) gates

-- ---- names of added gates

-- these names have numbers from k on, and the mark
pub record IsCopyName (a : Parts) (k : ℕ) (name : List ℕ) : Type 0 where
  pub own : List ℕ
  pub fits : IsBlifName own
  pub is : name ≡ copy_name (mark a) k own

abbrev pub AreNumbered : Parts → ℕ → List (List ℕ) → Type 0
AreNumbered a k names = (i : ℕ) → i < length names → IsCopyName a (k + i) (get_or names i [])

numbered_append : (a : Parts) (k : ℕ) (xs ys : List (List ℕ)) → AreNumbered a k xs → AreNumbered a (k + length xs) ys → AreNumbered a k (xs ++ ys)
numbered_append a k xs ys first second i l =
    let e = length-append xs ys in
    elim (cases_lt i (length xs)) [
      | inl low ↦ subst (IsCopyName a (k + i)) (sym (get_or_append_left xs ys [] i low)) (first i low)
      | inr high ↦
          let j : ℕ = i - length xs in
          let same : (k + length xs) + j ≡ k + i = omega arith in
          subst (IsCopyName a (k + i)) (sym (get_or-append_right xs ys (length xs) i [] refl high))
          (subst (λ n. IsCopyName a n (get_or ys j [])) same (second j (omega arith)))
    ]

numbered_long : (a : Parts) (k : ℕ) (xs : List (List ℕ)) → AreNumbered a k xs → AllByRecursion (λ name. longest_run_in a < longest_run name) xs
numbered_long a k xs h =
    recursion_from_All (λ name. longest_run_in a < longest_run name) xs
    (All-from_get_or (λ name. longest_run_in a < longest_run name) xs [] (λ i l.
    let here = h i l in
    let long = copy_is_long (suc (longest_run_in a)) (k + i) here.own in
    let same = ap longest_run here.is in
    omega arith))

numbered_fit : (a : Parts) (k : ℕ) (xs : List (List ℕ)) → k + length xs ≤ 4294967295 → AreNumbered a k xs → All IsBlifName xs
numbered_fit a k xs few h =
    All-from_get_or IsBlifName xs [] (λ i l.
    let here = h i l in
    subst IsBlifName (sym here.is) (copy_name_fits (suc (longest_run_in a)) (k + i) here.own (omega arith) here.fits))

numbered_distinct : (a : Parts) (k : ℕ) (xs : List (List ℕ)) → k + length xs ≤ 4294967295 → AreNumbered a k xs → IsDistinct bytes_eq xs
numbered_distinct a k xs few h =
    IsDistinct-from_AllPairs bytes_eq-Decides xs
    (λ i j d less l e.
    let one = h i (omega arith) in
    let other = h j l in
    let told = copy_names_tell (longest_run_in a) (k + i) (k + j) one.own other.own (omega arith) (omega arith)
    (sym one.is ∙ get_or_default xs i [] d (omega arith) ∙ e ∙ get_or_default xs j d [] l ∙ other.is) in
    let same = told.0 in
    omega arith)

-- those of the second netlist's gates
moved_numbered : (a b : Parts) → IsNetlist b → AreNumbered a 0 (names_of (moved_gates a b))
moved_numbered a b valid_b i l =
    let m = length-map (moved_gates a b) (λ (gate : Gate). gate.name) in
    let g = length-moved a b in
    let less : i < length b.gates = omega arith in
    let at : get_or (moved_gates a b) i no_gate ≡ moved_gate_by (columns_by_name a b) (count a) (mark a) b i = get_or-map-range_with_len (moved_gate_by (columns_by_name a b) (count a) (mark a) b) 0 (length b.gates) i i no_gate less (omega arith) in
    record {
      own = (gate_at b i).name;
      fits = gate_fits i less;
      is =
          get_or-map (λ (gate : Gate). gate.name) (moved_gates a b) i no_gate [] (omega arith)
          ∙ ap (λ (gate : Gate). gate.name) at ∙ ap (λ n. copy_name (mark a) n (gate_at b i).name) (let e : i ≡ 0 + i = omega arith in e);
    }
  where
    gate_fits : (i : ℕ) → i < length b.gates → IsBlifName (gate_at b i).name
    gate_fits i l =
        let wide = length-column_names b in
        let all = length-names b in
        let many = length-map b.gates (λ (gate : Gate). gate.name) in
        grind (arith, names_split b, get_or-append-add (column_names b) (names_of b.gates) i [], get_or-map)

-- those of the gates that tell
numbered_one : (a : Parts) → IsNetlist a → (n k : ℕ) → n ≡ k → AreNumbered a k (more_name a n ∷ [])
numbered_one a valid n k e zero l = record { own = a.name; fits = valid.name; is = ap (more_name a) (let f : n ≡ k + zero = omega arith in f) }
numbered_one a valid n k e (suc i) l = absurd (omega arith)

miter_numbered : (a : Parts) (k : ℕ) (pairs : List Pair) → IsNetlist a → AreNumbered a k (names_of (miter_gates a k pairs))
miter_numbered a k pairs valid =
    let own = names_of links in
    let last = more_name a (suc (k + length pairs)) ∷ [] in
    let many = length-map links (λ (gate : Gate). gate.name) in
    let long = length-map-range_with_len (link_gate a k pairs) 0 (length pairs) in
    subst (λ names. AreNumbered a k (more_name a k ∷ names)) (sym (map-append (λ (gate : Gate). gate.name) links (last_gate a k (length pairs) ∷ [])))
    (numbered_append a k (more_name a k ∷ []) (own ++ last) (numbered_one a valid k k refl)
    (subst (λ n. AreNumbered a n (own ++ last)) (let e : suc k ≡ k + 1 = omega arith in e)
    (numbered_append a (suc k) own last own_numbered (numbered_one a valid (suc (k + length pairs)) (suc k + length own) (omega arith)))))
  where
    links : List Gate
    links = map (link_gate a k pairs) (range_with_len 0 (length pairs))

    own_numbered : AreNumbered a (suc k) (names_of links)
    own_numbered i l =
        let many = length-map links (λ (gate : Gate). gate.name) in
        let long = length-map-range_with_len (link_gate a k pairs) 0 (length pairs) in
        record {
          own = a.name;
          fits = valid.name;
          is = ap (λ names. get_or names i []) (map-map (λ (gate : Gate). gate.name) (link_gate a k pairs) (range_with_len 0 (length pairs)))
              ∙ get_or-map-range_with_len (λ n. more_name a (suc (k + n))) 0 (length pairs) i i [] (omega arith) (omega arith)
              ∙ ap (more_name a) (let e : suc (k + i) ≡ suc k + i = omega arith in e);
        }

-- ---- a gate that reads signals, as many as its cover has pins

pub record IsSound (net : Parts) (gate : Gate) : Type 0 where
  pub pins : All (IsSignal net) gate.pins
  pub counted : length gate.pins ≡ gate.cover.pins

module _ (a b : Parts) (valid_a : IsNetlist a) (valid_b : IsNetlist b) (none : unmatched a b ≡ None) (more : List Gate)
    (fits : count a + (length b.gates + length more) ≤ 4294967295)
    (numbered : AreNumbered a (length b.gates) (names_of more)) (sound : All (IsSound (joined a b more)) more) where
  abbrev net : Parts
  net = joined a b more

  abbrev added : List (List ℕ)
  added = names_of (moved_gates a b ++ more)

  length-net : count net ≡ count a + (length b.gates + length more)
  length-net = let e = length-joined a b more in omega arith

  signal_kept : (s : Sig) → IsSignal a s → IsSignal net s
  signal_kept s l = let e = length-net in omega arith

  length-added : length added ≡ length b.gates + length more
  length-added = let x = length-map (moved_gates a b ++ more) (λ (gate : Gate). gate.name) in let y = length-append (moved_gates a b) more in let z = length-moved a b in omega arith

  added_numbered : AreNumbered a 0 added
  added_numbered =
      let y = length-map (moved_gates a b) (λ (gate : Gate). gate.name) in
      let z = length-moved a b in
      grind (arith, map-append, numbered_append a 0 (names_of (moved_gates a b)) (names_of more) (moved_numbered a b valid_b), moved_numbered a b valid_b)

  names_are : signal_names net ≡ signal_names a ++ added
  names_are = grind (arith, map-append, append_assoc, append_assoc a.inputs (driven_names a) added)

  added_long : AllByRecursion (λ name. longest_run_in a < longest_run name) added
  added_long = numbered_long a 0 added added_numbered

  old_short : AllByRecursion (λ name. longest_run name ≤ longest_run_in a) (signal_names a)
  old_short = let whole = longest-append (signal_names a) (clock_names a) in all_short (signal_names a) (longest_run_in a) (omega arith)

  few_added : 0 + length added ≤ 4294967295
  few_added = let e = length-added in omega arith

  names_differ : IsDistinct bytes_eq (signal_names net)
  names_differ =
      subst (IsDistinct bytes_eq) (sym names_are)
      (distinct_append (signal_names a) added valid_a.names_differ (numbered_distinct a 0 added few_added added_numbered)
      (short_from_long (longest_run_in a) (signal_names a) added old_short added_long))

  names_fit : All IsBlifName (signal_names net)
  names_fit = subst (All IsBlifName) (sym names_are) (All-append IsBlifName (signal_names a) added valid_a.names (numbered_fit a 0 added few_added added_numbered))

  moved_sound : All (IsSound net) (moved_gates a b)
  moved_sound k d l =
      grind (arith, length-moved a b, get_or-map-range_with_len (moved_gate_by (columns_by_name a b) (count a) (mark a) b) 0 (length b.gates) k k d, All-map (IsSignal net) (moved a b) (gate_at b k).pins, moved_within a b more (matched a b none), matched a b none, length-map (gate_at b k).pins (moved a b))

  own_sound : All (IsSound net) a.gates
  own_sound k d l = record {
    pins = λ i e m. signal_kept (get_or (get_or a.gates k d).pins i e) (valid_a.pins k d l i e m);
    counted = valid_a.pin_counts k d l;
  }

  all_sound : All (IsSound net) (a.gates ++ (moved_gates a b ++ more))
  all_sound = All-append (IsSound net) a.gates (moved_gates a b ++ more) own_sound (All-append (IsSound net) (moved_gates a b) more moved_sound sound)

  -- the clock's name is none of the added ones
  still_undriven : (name : List ℕ) → longest_run name ≤ longest_run_in a → is_driven a name ≡ false → is_driven net name ≡ false
  still_undriven name short h =
      let parts = or_parts (list_any (λ (latch : Latch). bytes_eq name latch.name) a.latches) (list_any (λ (gate : Gate). bytes_eq name gate.name) a.gates) h in
      or_from (list_any (λ (latch : Latch). bytes_eq name latch.name) a.latches) (list_any (λ (gate : Gate). bytes_eq name gate.name) (a.gates ++ (moved_gates a b ++ more))) parts.0
      (list_any-append (λ (gate : Gate). bytes_eq name gate.name) a.gates (moved_gates a b ++ more)
      ∙ or_from (list_any (λ (gate : Gate). bytes_eq name gate.name) a.gates) (list_any (λ (gate : Gate). bytes_eq name gate.name) (moved_gates a b ++ more)) parts.1
      (sym (list_any-map (bytes_eq name) (λ (gate : Gate). gate.name) (moved_gates a b ++ more)) ∙ short_is_none (longest_run_in a) name added short added_long))

  clock_kept : (o : Option Clock) → longest_run_of (option_map_or (λ (clock : Clock). clock.name ∷ []) o []) ≤ longest_run_in a → IfSome o (λ clock. IsClockName a clock.name) → IfSome o (λ clock. IsClockName net clock.name)
  clock_kept o short h = grind (arith, still_undriven)

  pub joined_is_netlist : IsNetlist net
  joined_is_netlist = grind (arith, length-net, all_sound, signal_kept, names_fit, names_differ, nothing_twice, clock_kept a.clock, longest-append (signal_names a) (clock_names a))

-- ---- the gates of the miter

module _ (a b : Parts) (pairs : List Pair) where
  abbrev first : ℕ
  first = length b.gates

  abbrev own_gates : List Gate
  own_gates = miter_gates a first pairs

  abbrev IsHere : Sig → Type 0
  IsHere s = IsSignal (joined a b own_gates) s

  count_miter : count (joined a b own_gates) ≡ count a + (first + suc (suc (length pairs)))
  count_miter = let e = length-joined a b own_gates in let f = length-told a b pairs in omega arith

  link_sound : All (IsPairOf (joined a b own_gates)) pairs → (i : ℕ) → i < length pairs → IsSound (joined a b own_gates) (link_gate a first pairs i)
  link_sound are i l =
      let pair = are i no_pair l in
      let here : IsHere (get_or pairs i no_pair).here = pair.here in
      let there : IsHere (get_or pairs i no_pair).there = pair.there in
      let before = signal (count a + (first + i)) in
      let one = (get_or pairs i no_pair).here in
      let other = (get_or pairs i no_pair).there in
      grind (arith, count_miter, All-cons IsHere before (one ∷ other ∷ []), All-cons IsHere one (other ∷ []) here (All-cons IsHere other [] there (All-nil IsHere)), All-cons IsHere other [] there (All-nil IsHere), All-nil IsHere)

  last_sound : IsSound (joined a b own_gates) (last_gate a first (length pairs))
  last_sound =
      let link = signal (count a + (first + length pairs)) in
      let last = signal (count a + suc (first + length pairs)) in
      grind (arith, count_miter, All-cons IsHere link (last ∷ []), All-cons IsHere last [], All-nil IsHere)

  miter_sound : All (IsPairOf (joined a b own_gates)) pairs → All (IsSound (joined a b own_gates)) own_gates
  miter_sound are =
      let sound = IsSound (joined a b own_gates) in
      let links = map (link_gate a first pairs) (range_with_len 0 (length pairs)) in
      let last = last_gate a first (length pairs) in
      All-cons sound (never_gate a first) (links ++ last ∷ []) (record { pins = All-nil IsHere; counted = refl })
      (All-append sound links (last ∷ [])
      (All-map sound (link_gate a first pairs) (range_with_len 0 (length pairs))
      (λ i e m.
      let len = length-range_with_len 0 (length pairs) in
      let at = get_or-range_with_len 0 (length pairs) i e (omega arith) in
      link_sound are (get_or (range_with_len 0 (length pairs)) i e) (omega arith)))
      (All-cons sound last [] last_sound (All-nil sound)))

-- the joined netlist alone, and the miter
pub joined_valid : (a b : Parts) → IsNetlist a → IsNetlist b → unmatched a b ≡ None → count a + length b.gates ≤ 4294967295 → IsNetlist (joined a b [])
joined_valid a b valid_a valid_b none fits = grind (arith, joined_is_netlist a b valid_a valid_b none [])

pub miter_valid : (a b : Parts) → IsNetlist a → IsNetlist b → unmatched a b ≡ None → count a + suc (length b.gates + length (joined_pairs a b)) ≤ 4294967294 → IsNetlist (miter a b)
miter_valid a b valid_a valid_b none fits =
    let told = miter_gates a (length b.gates) (joined_pairs a b) in
    let e = length-told a b (joined_pairs a b) in
    joined_is_netlist a b valid_a valid_b none (miter_gates a (length b.gates) (joined_pairs a b)) (omega arith)
    (miter_numbered a (length b.gates) (joined_pairs a b) valid_a)
    (miter_sound a b (joined_pairs a b) (pairs_joined a b valid_a valid_b none (miter_gates a (length b.gates) (joined_pairs a b))))
