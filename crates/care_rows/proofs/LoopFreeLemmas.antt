-- The model has no loop: what is kept of the netlist reads such gates alone, and so does what is kept of the assumption,
-- and a gate that tells reads earlier ones.
use Rattle.std.proofs.Common.{◌≡◌, inl, inr, ℕ, zero, suc, ◌+◌, ◌*◌, ◌-◌, ◌<◌, ◌≤◌, List, [], ◌∷◌, ◌++◌, length, map, drop, get_or, All, Contains, Option, Some, None, true, refl, sym, ap, ◌∙◌, subst, arith}
use Rattle.care_rows.specs.declared.telling.TheConstants.{PIECE}
use Rattle.care_rows.proofs.Common.{All-append, All-cons, All-from_recursion, All-map, All-nil, AllByRecursion, Feeds, Gate, IsLoopFree, IsSignal, Parts, Plan, Row, Sig, Walk, WireValue, all_marked, and_gate, assumed_output, assumed_signal, assumed_size, base_of, cases_lt, columns, conditions, first_assumed, gate_at, gate_sig, get_or-append_right, get_or-map, get_or-map-range_with_len, get_or_append_left, inputs_of, length-append, length-map, link, linked_piece, model_of, kept_signal, no_gate, piece, placed_row, recursion_from_All, row_gates, row_outputs, signal, table_of, telling, telling_gates, telling_gates_of, telling_name, telling_of_rows, total_of, wire_value, rank}
use Rattle.std.proofs.lemmas.List.Elements.{All-drop, All-take}
use Rattle.cyc_base.proofs.ListLemmas.{all_weaker}
use Rattle.loops.proofs.Walks.{leads-any}
use Rattle.care_rows.proofs.RankLemmas.{marked_at, rank_at}
use Rattle.care_rows.proofs.SteadyLemmas.{pin_feeds}
use Rattle.care_rows.proofs.LayoutLemmas.{columns-model, kept_at, length-model, length-rows, length-telling, length-told, old_at, told_cons, told_stand}
use Rattle.care_rows.proofs.PlanLemmas.{Fits, IsKeptSignal, IsOldOf, assumed_low, column_low, gate_low, gate_stands, input_low, kept_low, old_moved}

-- ---- gates that read earlier signals

-- the gates with the signals from `first` on read earlier ones alone
abbrev pub ReadEarlier : ℕ → List Gate → Type 0
ReadEarlier first gates = (t : ℕ) → t < length gates → All (λ pin. pin.0 < first + t) (get_or gates t no_gate).pins

reads-append : (first second : ℕ) (xs ys : List Gate) → first + length xs ≡ second → ReadEarlier first xs → ReadEarlier second ys → ReadEarlier first (xs ++ ys)
reads-append first second xs ys at one two t l =
    let n = length-append xs ys in
    elim (cases_lt t (length xs)) [
      | inl low ↦ subst (λ (gate : Gate). All (λ pin. pin.0 < first + t) gate.pins) (sym (get_or_append_left xs ys no_gate t low)) (one t low)
      | inr high ↦
          let k : ℕ = t - length xs in
          subst (λ (gate : Gate). All (λ pin. pin.0 < first + t) gate.pins) (sym (get_or-append_right xs ys (length xs) t no_gate refl high))
          (λ i d inside. let h = two k (omega (arith, l, n, high)) i d inside in omega (arith, h, at, high))
    ]

only : {A : Type 0} (P : A → Type 0) (x : A) → P x → All P (x ∷ [])
only P x is = All-cons P x [] is (All-nil P)

link_low : (first t : ℕ) → All (λ e. e.wire.0 < first + t) (link first t)
link_low first zero = All-nil _
link_low first (suc k) = only (λ e. e.wire.0 < first + suc k) (wire_value (signal (first + k)) true) (omega arith)

reads-telling : (mark : List ℕ) (total base number : ℕ) (wires : List WireValue) → All (λ e. e.wire.0 < base + number) wires → ReadEarlier (base + number) (telling mark total base number wires)
reads-telling mark total base number wires low t l =
    let n = length-telling mark total base number wires in
    let first : ℕ = base + number in
    let at = get_or-map-range_with_len (λ k. and_gate (telling_name mark total (number + k)) (linked_piece first wires k)) 0 (telling_gates (length wires)) t t no_gate (omega (arith, l, n)) (omega arith) in
    let later : All (λ e. e.wire.0 < first + t) wires = λ i d inside. let h = low i d inside in omega (arith, h) in
    subst (λ (gate : Gate). All (λ pin. pin.0 < first + t) gate.pins) (sym at)
    (All-map (λ (pin : Sig). pin.0 < first + t) (λ (e : WireValue). e.wire) (linked_piece first wires t)
    (All-append (λ e. e.wire.0 < first + t) (link first t) (piece wires t) (link_low first t)
    (All-take (λ e. e.wire.0 < first + t) PIECE (drop (PIECE * t) wires) (All-drop (λ e. e.wire.0 < first + t) (PIECE * t) wires later))))

reads-rows : (mark : List ℕ) (total base : ℕ) (table : List ℕ) (number : ℕ) (rows : List Row) → AllByRecursion (λ row. All (λ e. e.wire.0 < base) (placed_row table row)) rows → ReadEarlier (base + number) (row_gates mark total base table number rows)
reads-rows mark total base table number [] low = λ t l. absurd (omega (arith, l))
reads-rows mark total base table number (row ∷ rows) low =
    let n : ℕ = telling_gates (length row.values) in
    let here = telling mark total base number (placed_row table row) in
    let size = length-telling mark total base number (placed_row table row) in
    let same = ap telling_gates (length-map row.values (λ e. wire_value (kept_signal table e.wire) e.value)) in
    reads-append (base + number) (base + (number + n)) here (row_gates mark total base table (number + n) rows) (omega (arith, size, same))
    (reads-telling mark total base number (placed_row table row) (λ i d inside. let h = low.0 i d inside in omega (arith, h)))
    (reads-rows mark total base table (number + n) rows low.1)

outputs_low : (base number : ℕ) (rows : List Row) → AllByRecursion (λ e. e.wire.0 < base + (number + telling_of_rows rows)) (row_outputs base number rows)
outputs_low base number [] = tt
outputs_low base number (row ∷ rows) =
    let n : ℕ = telling_gates (length row.values) in
    let sum = told_cons row rows in (
      omega (arith, sum),
      all_weaker (λ e. e.wire.0 < base + (number + n + telling_of_rows rows)) (λ e. e.wire.0 < base + (number + telling_of_rows (row ∷ rows))) (row_outputs base (number + n) rows)
          (λ e h. omega (arith, h, sum)) (outputs_low base (number + n) rows),
    )

module _ (p : Plan) (mark : List ℕ) (fits : Fits p) where
  abbrev M : Parts
  M = model_of p mark

  abbrev K : ℕ
  K = length (all_marked p.cone)

  abbrev O : ℕ
  O = assumed_size p.old

  -- the gate of the netlist that stands here
  abbrev pub origin : ℕ → ℕ
  origin i = get_or (all_marked p.cone) i 0

  pub rows_low : AllByRecursion (λ row. All (λ e. e.wire.0 < base_of p) (placed_row (table_of p) row)) p.rows
  rows_low = recursion_from_All (λ row. All (λ e. e.wire.0 < base_of p) (placed_row (table_of p) row)) p.rows
      (λ k d l. All-map (λ (e : WireValue). e.wire.0 < base_of p) (λ e. wire_value (kept_signal (table_of p) e.wire) e.value) (get_or p.rows k d).values
      (λ i f inside. let h = kept_low p mark fits (get_or (get_or p.rows k d).values i f).wire (fits.wires k d l i f inside) in omega (arith, h)))

  pub conditions_low : All (λ e. e.wire.0 < base_of p + telling_of_rows p.rows) (conditions p)
  conditions_low =
      All-append (λ e. e.wire.0 < base_of p + telling_of_rows p.rows) (assumed_output (inputs_of p) (first_assumed p) p.old) (row_outputs (base_of p) 0 p.rows)
      (output_low p.old refl)
      (All-from_recursion (λ e. e.wire.0 < base_of p + telling_of_rows p.rows) (row_outputs (base_of p) 0 p.rows)
      (all_weaker (λ e. e.wire.0 < base_of p + (0 + telling_of_rows p.rows)) (λ e. e.wire.0 < base_of p + telling_of_rows p.rows) (row_outputs (base_of p) 0 p.rows) (λ e h. omega (arith, h)) (outputs_low (base_of p) 0 p.rows)))
    where
      output_low : (o : Option Parts) → p.old ≡ o → All (λ e. e.wire.0 < base_of p + telling_of_rows p.rows) (assumed_output (inputs_of p) (first_assumed p) o)
      output_low None is = All-nil _
      output_low (Some old) is =
          let one = (fits.old old is).outputs in
          let h = assumed_low p mark fits old is (get_or old.outputs 0 (signal 0)) ((fits.old old is).valid.outputs 0 (signal 0) (omega (arith, one))) in
          only (λ e. e.wire.0 < base_of p + telling_of_rows p.rows) (wire_value (assumed_signal (inputs_of p) (first_assumed p) (get_or old.outputs 0 (signal 0))) true) (omega (arith, h))

  pub told_read : ReadEarlier (base_of p) (telling_gates_of p mark)
  told_read =
      let rows = row_gates mark (total_of p) (base_of p) (table_of p) 0 p.rows in
      let last = telling mark (total_of p) (base_of p) (telling_of_rows p.rows) (conditions p) in
      let size = length-rows mark (total_of p) (base_of p) (table_of p) 0 p.rows in
      reads-append (base_of p) (base_of p + telling_of_rows p.rows) rows last (omega (arith, size))
      (λ t l i d inside. let h = reads-rows mark (total_of p) (base_of p) (table_of p) 0 p.rows rows_low t l i d inside in omega (arith, h))
      (reads-telling mark (total_of p) (base_of p) (telling_of_rows p.rows) (conditions p) conditions_low)

  -- ---- who feeds whom

  -- where a gate of the model has its pins, and what stands at one of them
  record Fed (a : ℕ) (pins : List Sig) (at : Sig → Sig) : Type 0 where
    k : ℕ
    here : k < length pins
    is : at (get_or pins k (signal 0)) ≡ gate_sig M a

  fed : (a b : ℕ) (pins : List Sig) (at : Sig → Sig) → (gate_at M b).pins ≡ map at pins → Feeds M a b → Fed a pins at
  fed a b pins at same feeds =
      let has : Contains (map at pins) (gate_sig M a) = subst (λ (xs : List Sig). Contains xs (gate_sig M a)) same feeds.pin in
      let here : has.0 < length pins = let l = has.1 in let n = length-map pins at in omega (arith, l, n) in
      record { k = has.0; here = here; is = sym (get_or-map at pins has.0 (signal 0) (gate_sig M a) here) ∙ has.2 }

  record KeptFeeds (a b : ℕ) : Type 0 where
    low : a < K
    feeds : Feeds p.net (origin a) (origin b)

  kept_feeds : (a b : ℕ) → b < K → Feeds M a b → KeptFeeds a b
  kept_feeds a b l feeds =
      let at = marked_at p.cone (length p.cone) b 0 l in
      let width = fits.cone_width in
      let inside = at.within in
      let n : ℕ = origin b in
      let less : n < length p.net.gates = omega (arith, inside, width) in
      let f = fed a b (gate_at p.net n).pins (kept_signal (table_of p)) (ap (λ (gate : Gate). gate.pins) (kept_at p mark b l)) feeds in
      let q : Sig = get_or (gate_at p.net n).pins f.k (signal 0) in
      let kept : IsKeptSignal p q = fits.closed n less at.marked f.k (signal 0) f.here in
      let number = ap (λ (s : Sig). s.0) f.is in
      let first = columns-model p mark in
      elim (cases_lt q.0 (columns p.net)) [
        | inl low ↦ absurd (let b = column_low p mark fits q.0 low (kept.column low) in omega (arith, b, number, first))
        | inr high ↦
            let m : ℕ = q.0 - columns p.net in
            let known = kept.inside in
            let ml : m < length p.net.gates = omega (arith, known, high) in
            let is : q ≡ gate_sig p.net m = ap signal (let e : q.0 ≡ columns p.net + m = omega (arith, high) in e) in
            let place = ap (λ (s : Sig). get_or (table_of p) s.0 0) is ∙ gate_stands p mark fits m ml in
            let marked = kept.gate high in
            let same : rank p.cone m ≡ a = omega (arith, place, number, first) in
            let bound = gate_low p mark fits m ml marked in
            let from : origin a ≡ m = ap origin (sym same) ∙ rank_at p.cone m (length p.cone) 0 (omega (arith, ml, width)) marked in
            record { low = omega (arith, same, bound); feeds = subst (λ (k : ℕ). Feeds p.net k (origin b)) (sym from) (pin_feeds p.net fits.valid n m f.k (signal 0) less f.here is) }
      ]

  module _ (old : Parts) (is_old : p.old ≡ Some old) where
    abbrev sound : IsOldOf p old
    sound = fits.old old is_old

    record OldFeeds (a j : ℕ) : Type 0 where
      number : ℕ
      at : a ≡ K + number
      feeds : Feeds old number j

    old_feeds : (a j : ℕ) → j < length old.gates → Feeds M a (K + j) → OldFeeds a j
    old_feeds a j l feeds =
        let none = sound.latches in
        let f = fed a (K + j) (gate_at old j).pins (assumed_signal (inputs_of p) (first_assumed p)) (ap (λ (gate : Gate). gate.pins) (old_at p mark old is_old j l)) feeds in
        let q : Sig = get_or (gate_at old j).pins f.k (signal 0) in
        let known : IsSignal old q = sound.valid.pins j no_gate l f.k (signal 0) f.here in
        let number = ap (λ (s : Sig). s.0) f.is in
        let first = columns-model p mark in
        elim (cases_lt q.0 (length old.inputs)) [
          | inl low ↦ absurd (let b = input_low p mark fits old is_old q low in omega (arith, b, number, first))
          | inr high ↦
              let i : ℕ = q.0 - length old.inputs in
              let place = ap (λ (s : Sig). s.0) (old_moved p mark fits old is_old q high) in
              let is : q ≡ gate_sig old i = ap signal (let e : q.0 ≡ length old.inputs + length old.latches + i = omega (arith, high, none) in e) in
              record { number = i; at = omega (arith, place, number, first); feeds = pin_feeds old sound.valid j i f.k (signal 0) l f.here is }
        ]

  told_feeds : (a t : ℕ) → t < total_of p → Feeds M a (K + O + t) → a < K + O + t
  told_feeds a t l feeds =
      let size = length-told p mark in
      let at = told_stand p mark t (omega (arith, l, size)) in
      let has : Contains (get_or (telling_gates_of p mark) t no_gate).pins (gate_sig M a) = subst (λ (gate : Gate). Contains gate.pins (gate_sig M a)) at feeds.pin in
      let low = told_read t (omega (arith, l, size)) has.0 (gate_sig M a) has.1 in
      let e = ap (λ (s : Sig). s.0) has.2 in
      let first = columns-model p mark in
      omega (arith, low, e, first)

  -- ---- walks

  record KeptWalk (a b : ℕ) (via : List ℕ) : Type 0 where
    low : a < K
    walk : Walk p.net (origin a) (map origin via) (origin b)

  walk_kept : (a b : ℕ) (via : List ℕ) → Walk M a via b → b < K → KeptWalk a b via
  walk_kept a b [] w l = let f = kept_feeds a b l w in record { low = f.low; walk = f.feeds }
  walk_kept a b (x ∷ via) w l =
      let rest = walk_kept x b via w.1 l in
      let f = kept_feeds a x rest.low w.0 in
      record { low = f.low; walk = (f.feeds, rest.walk) }

  module _ (old : Parts) (is_old : p.old ≡ Some old) where
    record OldWalk (a j : ℕ) (via : List ℕ) : Type 0 where
      number : ℕ
      passed : List ℕ
      at : a ≡ K + number
      within : number < length old.gates
      walk : Walk old number passed j

    walk_old : (a j : ℕ) (via : List ℕ) → Walk M a via (K + j) → j < length old.gates → OldWalk a j via
    walk_old a j [] w l = let f = old_feeds old is_old a j l w in record { number = f.number; passed = []; at = f.at; within = f.feeds.source; walk = f.feeds }
    walk_old a j (x ∷ via) w l =
        let rest = walk_old x j via w.1 l in
        let f = old_feeds old is_old a rest.number rest.within (subst (λ (k : ℕ). Feeds M a k) rest.at w.0) in
        record { number = f.number; passed = rest.number ∷ rest.passed; at = f.at; within = f.feeds.source; walk = (f.feeds, rest.walk) }

    old_loop : (a : ℕ) (via : List ℕ) → K ≤ a → a < K + length old.gates → ¬ Walk M a via a
    old_loop a via above below w =
        let j : ℕ = a - K in
        let at : a ≡ K + j = omega (arith, above) in
        let o = walk_old a j via (subst (Walk M a via) at w) (omega (arith, above, below)) in
        let e = o.at in
        let same : o.number ≡ j = omega (arith, at, e) in
        (fits.old old is_old).loop_free j o.passed (subst (λ (k : ℕ). Walk old k o.passed j) same o.walk)

    old_below : (a b : ℕ) → K ≤ b → b < K + length old.gates → Feeds M a b → a < K + length old.gates
    old_below a b above below feeds =
        let j : ℕ = b - K in
        let at : b ≡ K + j = omega (arith, above) in
        let f = old_feeds old is_old a j (omega (arith, above, below)) (subst (Feeds M a) at feeds) in
        let e = f.at in
        let s = f.feeds.source in
        omega (arith, e, s)

  -- a gate that tells feeds later ones alone
  told_feeds_later : (a b : ℕ) → K + O ≤ a → Feeds M a b → (K + O ≤ b) × (a < b)
  told_feeds_later a b above feeds =
      elim (cases_lt b K) [
        | inl low ↦ absurd (let f = kept_feeds a b low feeds in let l = f.low in omega (arith, l, above))
        | inr high ↦
            elim (cases_lt b (K + O)) [
              | inl below ↦ absurd (by p.old refl high below)
              | inr told ↦
                  let t : ℕ = b - (K + O) in
                  let at : b ≡ K + O + t = omega (arith, told) in
                  let size = length-model p mark in
                  let reader = feeds.reader in
                  let less = told_feeds a t (omega (arith, size, reader, told)) (subst (Feeds M a) at feeds) in
                  (told, omega (arith, less, at))
            ]
      ]
    where
      by : (o : Option Parts) → p.old ≡ o → K ≤ b → b < K + O → ⊥
      by None is high below = let size = ap assumed_size is in omega (arith, high, below, size)
      by (Some old) is high below = let size = ap assumed_size is in let f = old_below old is a b high (omega (arith, below, size)) feeds in omega (arith, f, above, size)

  walk_told : (a b : ℕ) (via : List ℕ) → K + O ≤ a → Walk M a via b → a < b
  walk_told a b [] above w = (told_feeds_later a b above w).1
  walk_told a b (x ∷ via) above w =
      let first = told_feeds_later a x above w.0 in
      let rest = walk_told x b via first.0 w.1 in
      let step = first.1 in
      omega (arith, rest, step)

  pub model_loop_free : IsLoopFree M
  model_loop_free a via w =
      elim (cases_lt a K) [
        | inl low ↦
            let kept = walk_kept a a via w low in
            let at = marked_at p.cone (length p.cone) a 0 low in
            let width = fits.cone_width in
            let inside = at.within in
            fits.off_loops (origin a) (omega (arith, inside, width)) at.marked (leads-any p.net (origin a) (origin a) (map origin via) kept.walk)
        | inr high ↦
            elim (cases_lt a (K + O)) [
              | inl below ↦ by p.old refl high below
              | inr told ↦ let l = walk_told a a via told w in omega (arith, l)
            ]
      ]
    where
      by : (o : Option Parts) → p.old ≡ o → K ≤ a → a < K + O → ⊥
      by None is high below = let size = ap assumed_size is in omega (arith, high, below, size)
      by (Some old) is high below = let size = ap assumed_size is in old_loop old is a via high (omega (arith, below, size)) w
