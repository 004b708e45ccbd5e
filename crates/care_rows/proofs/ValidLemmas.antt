-- The model is a netlist.
use Rattle.std.proofs.Common.{◌≡◌, ◌≢◌, inl, inr, ℕ, zero, suc, ◌+◌, ◌-◌, ◌^◌, ◌<◌, ◌≤◌, false, List, [], ◌∷◌, ◌++◌, length, map, get_or, All, Option, Some, None, refl, sym, ap, ◌∙◌, subst, arith}
use Rattle.std.specs.Prelude.{codes}
use Rattle.care_rows.proofs.Common.{All-append, All-from_recursion, All-map, All-nil, AllByRecursion, Gate, IsBlifName, IsDistinct, IsNetlist, IsSignal, Parts, Plan, Row, Sig, WireValue, all_marked, and_gate, append_assoc, assumed_gate, assumed_gates, assumed_signal, assumed_size, base_of, cases_eq, cases_lt, column_name, columns, conditions, count, first_assumed, gate_at, get_or-append-add, get_or-append_right, get_or-map, get_or-map-range_with_len, get_or_append_left, get_or_default, inputs_of, kept_gate, kept_gates, length-append, length-map, length-map-range_with_len, length-range_with_len, linked_piece, map-append, marked_name, model_of, kept_signal, no_gate, old_gates, placed_row, range_with_len, rank, recursion_from_All, row_gates, sig_eq, signal, signal_names, table_of, telling, telling_gates, telling_gates_of, telling_name, telling_of_rows, total_of, model_gates, wire_value}
use Rattle.std.proofs.lemmas.List.Elements.{All-from_get_or}
use Rattle.std.proofs.lemmas.List.FromFn.{get_or-range_with_len}
use Rattle.std.proofs.lemmas.Map.Made.{AllPairs-from_IsDistinct, IsDistinct-from_AllPairs}
use Rattle.std.proofs.lemmas.Slice.Eq.{bytes_eq-Decides}
use Rattle.std.specs.Str.{bytes_eq}
use Rattle.care_sets.proofs.NameLemmas.{gate_names, length-column_names, names_split}
use Rattle.care_sets.specs.Care.{column_names}
use Rattle.cyc_base.proofs.NameLemmas.{bytes_eq-other}
use Rattle.netlist.proofs.NameLemmas.{length-signal_names}
use Rattle.cyc_base.proofs.DigitLemmas.{NoTilde}
use Rattle.cyc_base.proofs.TildeLemmas.{longest-append}
use Rattle.cyc_base.specs.Tildes.{longest_run}
use Rattle.unroll.proofs.NameLemmas.{Apart, all_short, distinct_append, short_from_long}
use Rattle.unroll.specs.Marks.{clock_names, longest_run_in, mark}
use Rattle.care_rows.proofs.RankLemmas.{marked_at, rank_of}
use Rattle.care_rows.proofs.NameLemmas.{assume_fits, marked_fits, marked_long, marked_tells, telling_fits, telling_long, telling_other, telling_tells}
use Rattle.care_rows.proofs.LayoutLemmas.{count-model, length-kept, length-old, length-rows, length-telling, length-told}
use Rattle.care_rows.proofs.LoopFreeLemmas.{told_read}
use Rattle.care_rows.proofs.PlanLemmas.{Fits, assumed_low, column_stands, gate_stands, kept_low}

-- ---- gates that read signals, as many as their covers have pins

pub record IsSound (net : Parts) (gate : Gate) : Type 0 where
  pub pins : All (IsSignal net) gate.pins
  pub counted : length gate.pins ≡ gate.cover.pins

abbrev IsCounted : Gate → Type 0
IsCounted gate = length gate.pins ≡ gate.cover.pins

and_counted : (name : List ℕ) (wires : List WireValue) → IsCounted (and_gate name wires)
and_counted name wires = length-map wires (λ e. e.wire)

telling_counted : (mark : List ℕ) (total base number : ℕ) (wires : List WireValue) → All IsCounted (telling mark total base number wires)
telling_counted mark total base number wires =
    All-map IsCounted (λ k. and_gate (telling_name mark total (number + k)) (linked_piece (base + number) wires k)) (range_with_len 0 (telling_gates (length wires)))
    (λ i d l. and_counted (telling_name mark total (number + get_or (range_with_len 0 (telling_gates (length wires))) i d)) (linked_piece (base + number) wires (get_or (range_with_len 0 (telling_gates (length wires))) i d)))

rows_counted : (mark : List ℕ) (total base : ℕ) (table : List ℕ) (number : ℕ) (rows : List Row) → All IsCounted (row_gates mark total base table number rows)
rows_counted mark total base table number [] = All-nil IsCounted
rows_counted mark total base table number (row ∷ rows) =
    All-append IsCounted (telling mark total base number (placed_row table row)) (row_gates mark total base table (number + telling_gates (length row.values)) rows)
    (telling_counted mark total base number (placed_row table row)) (rows_counted mark total base table (number + telling_gates (length row.values)) rows)

-- ---- names by numbers

abbrev names_of : List Gate → List (List ℕ)
names_of gates = map (λ gate. gate.name) gates

-- these gates have the names of those that tell, from this number on
abbrev Named : List ℕ → ℕ → ℕ → List Gate → Type 0
Named mark total number gates = (t : ℕ) → t < length gates → (get_or gates t no_gate).name ≡ telling_name mark total (number + t)

named-append : (mark : List ℕ) (total number after : ℕ) (xs ys : List Gate) → number + length xs ≡ after → Named mark total number xs → Named mark total after ys → Named mark total number (xs ++ ys)
named-append mark total number after xs ys at one two t l =
    let n = length-append xs ys in
    elim (cases_lt t (length xs)) [
      | inl low ↦ ap (λ (gate : Gate). gate.name) (get_or_append_left xs ys no_gate t low) ∙ one t low
      | inr high ↦
          let k : ℕ = t - length xs in
          ap (λ (gate : Gate). gate.name) (get_or-append_right xs ys (length xs) t no_gate refl high)
          ∙ two k (omega (arith, l, n, high))
          ∙ ap (telling_name mark total) (let e : after + k ≡ number + t = omega (arith, at, high) in e)
    ]

named-telling : (mark : List ℕ) (total base number : ℕ) (wires : List WireValue) → Named mark total number (telling mark total base number wires)
named-telling mark total base number wires t l =
    let n = length-telling mark total base number wires in
    ap (λ (gate : Gate). gate.name) (get_or-map-range_with_len (λ k. and_gate (telling_name mark total (number + k)) (linked_piece (base + number) wires k)) 0 (telling_gates (length wires)) t t no_gate (omega (arith, l, n)) (omega arith))

named-rows : (mark : List ℕ) (total base : ℕ) (table : List ℕ) (number : ℕ) (rows : List Row) → Named mark total number (row_gates mark total base table number rows)
named-rows mark total base table number [] = λ t l. absurd (omega (arith, l))
named-rows mark total base table number (row ∷ rows) =
    let here = telling mark total base number (placed_row table row) in
    let size = length-telling mark total base number (placed_row table row) in
    let same = ap telling_gates (length-map row.values (λ (e : WireValue). wire_value (kept_signal table e.wire) e.value)) in
    named-append mark total number (number + telling_gates (length row.values)) here (row_gates mark total base table (number + telling_gates (length row.values)) rows) (omega (arith, size, same))
    (named-telling mark total base number (placed_row table row))
    (named-rows mark total base table (number + telling_gates (length row.values)) rows)

one_output : (s : Sig) → IsDistinct sig_eq (s ∷ [])
unfolding IsDistinct
one_output s = (tt, tt)

one_signal : (net : Parts) (s : Sig) → IsSignal net s → All (IsSignal net) (s ∷ [])
one_signal net s is zero d l = is
one_signal net s is (suc k) d l = absurd (omega (arith, l))

gate_name_at : (net : Parts) (n : ℕ) → n < length net.gates → get_or (signal_names net) (columns net + n) [] ≡ (gate_at net n).name
gate_name_at net n l =
    ap (λ (names : List (List ℕ)). get_or names (columns net + n) []) (names_split net)
    ∙ ap (λ (k : ℕ). get_or (column_names net ++ gate_names net) k []) (let w = length-column_names net in let e : columns net + n ≡ length (column_names net) + n = omega (arith, w) in e)
    ∙ get_or-append-add (column_names net) (gate_names net) n []
    ∙ get_or-map (λ (gate : Gate). gate.name) net.gates n no_gate [] l

-- names that stand at two places differ
differ_at : (net : Parts) → IsNetlist net → (a b : ℕ) → a < count net → b < count net → a ≢ b → get_or (signal_names net) a [] ≢ get_or (signal_names net) b []
differ_at net valid a b al bl ne e =
    let apart = AllPairs-from_IsDistinct bytes_eq-Decides (signal_names net) valid.names_differ in
    let n = length-signal_names net in
    elim (cases_lt a b) [
      | inl low ↦ apart a b [] low (omega (arith, bl, n)) e
      | inr high ↦ apart b a [] (omega (arith, high, ne)) (omega (arith, al, n)) (sym e)
    ]

module _ (p : Plan) (fits : Fits p) (few : base_of p + total_of p ≤ 4294967295) where
  abbrev level : ℕ
  level = longest_run_in p.net

  abbrev M : Parts
  M = model_of p (mark p.net)

  size : count M ≡ base_of p + total_of p
  size = count-model p (mark p.net)

  -- ---- gates

  kept_sound : All (IsSound M) (kept_gates p)
  kept_sound =
      All-map (IsSound M) (kept_gate p.net (table_of p)) (all_marked p.cone) (λ k d l.
      let at = marked_at p.cone (length p.cone) k d l in
      let n : ℕ = get_or (all_marked p.cone) k d in
      let width = fits.cone_width in
      let inside = at.within in
      let less : n < length p.net.gates = omega (arith, inside, width) in
      record {
        pins = All-map (IsSignal M) (kept_signal (table_of p)) (gate_at p.net n).pins
            (λ i e here. let low = kept_low p (mark p.net) fits (get_or (gate_at p.net n).pins i e) (fits.closed n less at.marked i e here) in let s = size in omega (arith, low, s));
        counted = length-map (gate_at p.net n).pins (kept_signal (table_of p)) ∙ fits.valid.pin_counts n no_gate less;
      })

  old_sound : (o : Option Parts) → p.old ≡ o → All (IsSound M) (assumed_gates (inputs_of p) (first_assumed p) (mark p.net) o)
  old_sound None is = All-nil (IsSound M)
  old_sound (Some old) is =
      All-map (IsSound M) (assumed_gate (inputs_of p) (first_assumed p) (mark p.net) old) (range_with_len 0 (length old.gates)) (λ k d l.
      let n = length-range_with_len 0 (length old.gates) in
      let j : ℕ = get_or (range_with_len 0 (length old.gates)) k d in
      let at : j ≡ 0 + k = get_or-range_with_len 0 (length old.gates) k d (omega (arith, l, n)) in
      let less : j < length old.gates = omega (arith, at, l, n) in
      let valid = (fits.old old is).valid in
      record {
        pins = All-map (IsSignal M) (assumed_signal (inputs_of p) (first_assumed p)) (gate_at old j).pins
            (λ i e here. let low = assumed_low p (mark p.net) fits old is (get_or (gate_at old j).pins i e) (valid.pins j no_gate less i e here) in let s = size in omega (arith, low, s));
        counted = length-map (gate_at old j).pins (assumed_signal (inputs_of p) (first_assumed p)) ∙ valid.pin_counts j no_gate less;
      })

  told_counted : All IsCounted (telling_gates_of p (mark p.net))
  told_counted =
      All-append IsCounted (row_gates (mark p.net) (total_of p) (base_of p) (table_of p) 0 p.rows) (telling (mark p.net) (total_of p) (base_of p) (telling_of_rows p.rows) (conditions p))
      (rows_counted (mark p.net) (total_of p) (base_of p) (table_of p) 0 p.rows)
      (telling_counted (mark p.net) (total_of p) (base_of p) (telling_of_rows p.rows) (conditions p))

  told_sound : All (IsSound M) (telling_gates_of p (mark p.net))
  told_sound = All-from_get_or (IsSound M) (telling_gates_of p (mark p.net)) no_gate (λ t l. record {
    pins = λ i e here.
        let low = told_read p (mark p.net) fits t l i e here in
        let s = size in
        let n = length-told p (mark p.net) in
        omega (arith, low, s, l, n);
    counted = told_counted t no_gate l;
  })

  all_sound : All (IsSound M) (model_gates p (mark p.net))
  all_sound =
      All-append (IsSound M) (kept_gates p) (old_gates p (mark p.net) ++ telling_gates_of p (mark p.net)) kept_sound
      (All-append (IsSound M) (old_gates p (mark p.net)) (telling_gates_of p (mark p.net)) (old_sound p.old refl) told_sound)

  -- ---- own names

  abbrev inputs : ℕ
  inputs = rank p.used (length p.used)

  abbrev own : List (List ℕ)
  own = map (column_name p.net) (all_marked p.used) ++ names_of (kept_gates p)

  record Own (i : ℕ) : Type 0 where
    number : ℕ
    within : number < count p.net
    is : get_or own i [] ≡ get_or (signal_names p.net) number []
    back : get_or (table_of p) number 0 ≡ i

  own_at : (i : ℕ) → i < length own → Own i
  own_at i l =
      let first = length-map (all_marked p.used) (column_name p.net) in
      let second = length-map (kept_gates p) (λ (gate : Gate). gate.name) in
      let third = length-kept p (mark p.net) in
      let n = length-append (map (column_name p.net) (all_marked p.used)) (names_of (kept_gates p)) in
      elim (cases_lt i inputs) [
        | inl low ↦
            let c : ℕ = get_or (all_marked p.used) i 0 in
            let at = marked_at p.used (length p.used) i 0 low in
            let width = fits.used_width in
            let inside = at.within in
            let less : c < columns p.net = omega (arith, inside, width) in
            record {
              number = c;
              within = omega (arith, less);
              is = get_or_append_left (map (column_name p.net) (all_marked p.used)) (names_of (kept_gates p)) [] i (omega (arith, low, first)) ∙ get_or-map (column_name p.net) (all_marked p.used) i 0 [] low;
              back = column_stands p (mark p.net) fits c less ∙ rank_of p.used (length p.used) i 0 low;
            }
        | inr high ↦
            let k : ℕ = i - inputs in
            let kl : k < length (all_marked p.cone) = omega (arith, l, n, first, second, third, high) in
            let g : ℕ = get_or (all_marked p.cone) k 0 in
            let at = marked_at p.cone (length p.cone) k 0 kl in
            let width = fits.cone_width in
            let inside = at.within in
            let less : g < length p.net.gates = omega (arith, inside, width) in
            record {
              number = columns p.net + g;
              within = omega (arith, less);
              is = get_or-append_right (map (column_name p.net) (all_marked p.used)) (names_of (kept_gates p)) inputs i [] first high
                  ∙ get_or-map (λ (gate : Gate). gate.name) (kept_gates p) k no_gate [] (omega (arith, kl, third))
                  ∙ ap (λ (gate : Gate). gate.name) (get_or-map (kept_gate p.net (table_of p)) (all_marked p.cone) k 0 no_gate kl)
                  ∙ sym (gate_name_at p.net g less);
              back = gate_stands p (mark p.net) fits g less ∙ (let e = rank_of p.cone (length p.cone) k 0 kl in let f : inputs + rank p.cone g ≡ i = omega (arith, e, high) in f);
            }
      ]

  own_distinct : IsDistinct bytes_eq own
  own_distinct = IsDistinct-from_AllPairs bytes_eq-Decides own (λ i j d less l e.
      let one = own_at i (omega (arith, less, l)) in
      let other = own_at j l in
      let same : get_or (signal_names p.net) one.number [] ≡ get_or (signal_names p.net) other.number [] =
      sym one.is ∙ get_or_default own i [] d (omega (arith, less, l)) ∙ e ∙ get_or_default own j d [] l ∙ other.is in
      elim (cases_eq one.number other.number) [
        | inl eq ↦ (let a = one.back in let b = other.back in let t = ap (λ (k : ℕ). get_or (table_of p) k 0) eq in omega (arith, a, b, t, less))
        | inr ne ↦ differ_at p.net fits.valid one.number other.number one.within other.within ne same
      ])

  own_fit : All IsBlifName own
  own_fit = All-from_get_or IsBlifName own [] (λ i l.
      let one = own_at i l in
      let n = length-signal_names p.net in
      let w = one.within in
      subst IsBlifName (sym one.is) (fits.valid.names one.number [] (omega (arith, w, n))))

  own_short : AllByRecursion (λ name. longest_run name ≤ level) own
  own_short =
      let whole = longest-append (signal_names p.net) (clock_names p.net) in
      let short = All-from_recursion (λ name. longest_run name ≤ level) (signal_names p.net) (all_short (signal_names p.net) level (omega (arith, whole))) in
      recursion_from_All (λ name. longest_run name ≤ level) own (All-from_get_or (λ name. longest_run name ≤ level) own [] (λ i l.
      let one = own_at i l in
      let n = length-signal_names p.net in
      let w = one.within in
      subst (λ (name : List ℕ). longest_run name ≤ level) (sym one.is) (short one.number [] (omega (arith, w, n)))))

  -- ---- added names

  abbrev assumed : List (List ℕ)
  assumed = names_of (old_gates p (mark p.net))

  abbrev told : List (List ℕ)
  told = names_of (telling_gates_of p (mark p.net))

  record FromOld (i : ℕ) : Type 0 where
    old : Parts
    is_old : p.old ≡ Some old
    less : i < length old.gates
    is : get_or assumed i [] ≡ marked_name (codes "assume") (mark p.net) (gate_at old i).name

  from_old : (i : ℕ) → i < length assumed → FromOld i
  from_old i l = by p.old refl
    where
      by : (o : Option Parts) → p.old ≡ o → FromOld i
      by None is = absurd (
          let a = length-map (old_gates p (mark p.net)) (λ (gate : Gate). gate.name) in
          let b = length-old p (mark p.net) in
          let c = ap assumed_size is in
          omega (arith, l, a, b, c))
      by (Some old) is =
          let a = length-map (old_gates p (mark p.net)) (λ (gate : Gate). gate.name) in
          let b = length-old p (mark p.net) in
          let c = ap assumed_size is in
          let less : i < length old.gates = omega (arith, l, a, b, c) in
          record {
            old = old;
            is_old = is;
            less = less;
            is = ap (λ o. get_or (names_of (assumed_gates (inputs_of p) (first_assumed p) (mark p.net) o)) i []) is
                ∙ get_or-map (λ (gate : Gate). gate.name) (assumed_gates (inputs_of p) (first_assumed p) (mark p.net) (Some old)) i no_gate []
                (let w = length-map-range_with_len (assumed_gate (inputs_of p) (first_assumed p) (mark p.net) old) 0 (length old.gates) in omega (arith, less, w))
                ∙ ap (λ (gate : Gate). gate.name) (get_or-map-range_with_len (assumed_gate (inputs_of p) (first_assumed p) (mark p.net) old) 0 (length old.gates) i i no_gate less (omega arith));
          }

  same_old : (one other : Parts) → p.old ≡ Some one → p.old ≡ Some other → one ≡ other
  same_old one other a b = let e : ◌≡◌ {A = Option Parts} (Some one) (Some other) = sym a ∙ b in cc

  assume_free : NoTilde (codes "assume")
  assume_free = grind arith

  assumed_distinct : IsDistinct bytes_eq assumed
  assumed_distinct = IsDistinct-from_AllPairs bytes_eq-Decides assumed (λ i j d less l e.
      let one = from_old i (omega (arith, less, l)) in
      let other = from_old j l in
      let old = other.old in
      let same : one.old ≡ other.old = same_old one.old other.old one.is_old other.is_old in
      let il : i < length other.old.gates = (let jl = other.less in omega (arith, less, jl)) in
      let valid = (fits.old other.old other.is_old).valid in
      let names = sym one.is ∙ get_or_default assumed i [] d (omega (arith, less, l)) ∙ e ∙ get_or_default assumed j d [] l ∙ other.is in
      let names2 : marked_name (codes "assume") (mark p.net) (gate_at other.old i).name ≡ marked_name (codes "assume") (mark p.net) (gate_at other.old j).name =
      ap (λ (o : Parts). marked_name (codes "assume") (mark p.net) (gate_at o i).name) (sym same) ∙ names in
      let owns = (marked_tells level (codes "assume") (codes "assume") (gate_at other.old i).name (gate_at other.old j).name assume_free assume_free names2).1 in
      let jl = other.less in
      differ_at other.old valid (columns other.old + i) (columns other.old + j) (omega (arith, il)) (omega (arith, jl)) (λ q. omega (arith, q, less))
      (gate_name_at other.old i il ∙ owns ∙ sym (gate_name_at other.old j other.less)))

  told_named : Named (mark p.net) (total_of p) 0 (telling_gates_of p (mark p.net))
  told_named =
      let rows = row_gates (mark p.net) (total_of p) (base_of p) (table_of p) 0 p.rows in
      let last = telling (mark p.net) (total_of p) (base_of p) (telling_of_rows p.rows) (conditions p) in
      let n = length-rows (mark p.net) (total_of p) (base_of p) (table_of p) 0 p.rows in
      named-append (mark p.net) (total_of p) 0 (telling_of_rows p.rows) rows last (omega (arith, n))
      (named-rows (mark p.net) (total_of p) (base_of p) (table_of p) 0 p.rows)
      (named-telling (mark p.net) (total_of p) (base_of p) (telling_of_rows p.rows) (conditions p))

  told_at : (t : ℕ) → t < length told → (get_or told t [] ≡ telling_name (mark p.net) (total_of p) t) × (suc t < 2 ^ 64)
  told_at t l =
      let n = length-map (telling_gates_of p (mark p.net)) (λ (gate : Gate). gate.name) in
      let m = length-told p (mark p.net) in (
        get_or-map (λ (gate : Gate). gate.name) (telling_gates_of p (mark p.net)) t no_gate [] (omega (arith, l, n)) ∙ told_named t (omega (arith, l, n)) ∙ ap (telling_name (mark p.net) (total_of p)) (let e : 0 + t ≡ t = omega arith in e),
        omega (arith, l, n, m, few),
      )

  told_distinct : IsDistinct bytes_eq told
  told_distinct = IsDistinct-from_AllPairs bytes_eq-Decides told (λ i j d less l e.
      let one = told_at i (omega (arith, less, l)) in
      let other = told_at j l in
      let same = telling_tells level (total_of p) i j one.1 other.1 (sym one.0 ∙ get_or_default told i [] d (omega (arith, less, l)) ∙ e ∙ get_or_default told j d [] l ∙ other.0) in
      omega (arith, same, less))

  added_apart : Apart assumed told
  added_apart = recursion_from_All (λ x. AllByRecursion (λ y. bytes_eq x y ≡ false) told) assumed (λ i d l.
      recursion_from_All (λ y. bytes_eq (get_or assumed i d) y ≡ false) told (λ j e inside.
      let one = from_old i l in
      let other = told_at j inside in
      bytes_eq-other (get_or assumed i d) (get_or told j e) (λ q.
      telling_other level (total_of p) j (gate_at one.old i).name
      (sym one.is ∙ get_or_default assumed i [] d l ∙ q ∙ get_or_default told j e [] inside ∙ other.0))))

  abbrev added : List (List ℕ)
  added = assumed ++ told

  added_distinct : IsDistinct bytes_eq added
  added_distinct = distinct_append assumed told assumed_distinct told_distinct added_apart

  added_long : All (λ name. level < longest_run name) added
  added_long =
      All-append (λ name. level < longest_run name) assumed told
      (All-from_get_or (λ name. level < longest_run name) assumed [] (λ i l.
      let one = from_old i l in
      let h = marked_long (suc level) (codes "assume") (gate_at one.old i).name in
      let e = ap longest_run one.is in
      omega (arith, h, e)))
      (All-from_get_or (λ name. level < longest_run name) told [] (λ t l.
      let h = telling_long level (total_of p) t in
      let e = ap longest_run (told_at t l).0 in
      omega (arith, h, e)))

  added_fit : All IsBlifName added
  added_fit =
      All-append IsBlifName assumed told
      (All-from_get_or IsBlifName assumed [] (λ i l.
      let one = from_old i l in
      let valid = (fits.old one.old one.is_old).valid in
      let less = one.less in
      let n = length-signal_names one.old in
      let own_fits : IsBlifName (gate_at one.old i).name = subst IsBlifName (gate_name_at one.old i one.less) (valid.names (columns one.old + i) [] (omega (arith, less, n))) in
      subst IsBlifName (sym one.is) (marked_fits (suc level) (codes "assume") (gate_at one.old i).name (omega arith) assume_fits own_fits.1)))
      (All-from_get_or IsBlifName told [] (λ t l.
      let one = told_at t l in
      subst IsBlifName (sym one.0) (telling_fits level (total_of p) t one.1)))

  -- ---- all names

  names_are : signal_names M ≡ own ++ added
  names_are =
      ap (λ (names : List (List ℕ)). map (column_name p.net) (all_marked p.used) ++ names)
      (map-append (λ (gate : Gate). gate.name) (kept_gates p) (old_gates p (mark p.net) ++ telling_gates_of p (mark p.net))
      ∙ ap (λ (names : List (List ℕ)). names_of (kept_gates p) ++ names) (map-append (λ (gate : Gate). gate.name) (old_gates p (mark p.net)) (telling_gates_of p (mark p.net))))
      ∙ sym (append_assoc (map (column_name p.net) (all_marked p.used)) (names_of (kept_gates p)) added)

  pub model_valid : IsNetlist M
  model_valid = record {
    fits = let s = size in omega (arith, s, few);
    pins = λ k d l. (all_sound k d l).pins;
    sources = All-nil _;
    outputs = one_signal M (signal (base_of p + total_of p - 1)) (let s = size in omega (arith, s));
    pin_counts = λ k d l. (all_sound k d l).counted;
    name = ((λ e. cc), assume_fits);
    names = subst (All IsBlifName) (sym names_are) (All-append IsBlifName own added own_fit added_fit);
    names_differ = subst (IsDistinct bytes_eq) (sym names_are)
        (distinct_append own added own_distinct added_distinct (short_from_long level own added own_short (recursion_from_All (λ name. level < longest_run name) added added_long)));
    outputs_differ = one_output (signal (base_of p + total_of p - 1));
    clocked = refl;
    clock = tt;
  }
