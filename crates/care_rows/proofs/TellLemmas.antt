-- What the gates that tell show, where all signals are known.
use Rattle.std.proofs.Common.{◌≡◌, ◌≢◌, ℕ, zero, suc, ◌+◌, ◌*◌, ◌-◌, ◌<◌, ◌≤◌, Bool, true, List, [], ◌∷◌, ◌++◌, length, map, take, drop, get_or, All, refl, sym, ap, ap₂, ◌∙◌, subst, arith}
use Rattle.std.specs.Prelude.{◌↔◌}
use Rattle.care_rows.specs.declared.telling.TheConstants.{PIECE}
use Rattle.care_rows.proofs.Common.{All-append, AllByRecursion, Gate, IsSignal, One, Parts, Row, Sig, Trit, WireValue, X, Zero, and_gate, bits, bit, columns, ext, fix, fix_gates, gate_at, gate_sig, get_or-append-add, get_or-map-range_with_len, get_or_append_left, length-append, length-map, linked_piece, no_gate, piece, placed_row, row_gates, row_outputs, signal, take_all, telling, telling_gates, telling_name, telling_of_rows, wire, wire_value}
use Rattle.std.proofs.lemmas.List.{drop-take, take-append-drop, take-take}
use Rattle.std.proofs.lemmas.List.Elements.{All-drop, All-take}
use Rattle.netlist.proofs.FixpointLemmas.{get_or-fix}
use Rattle.care_rows.proofs.AndLemmas.{Holds, and_tells}
use Rattle.care_rows.proofs.LayoutLemmas.{StandsFrom, length-placed, length-telling, stands-first, stands-second, told_cons}

-- ---- lists

take_split : {A : Type 0} (m n : ℕ) (xs : List A) → take (m + n) xs ≡ take m xs ++ take n (drop m xs)
take_split m n xs =
    sym (take-append-drop m (take (m + n) xs))
    ∙ ap₂ (λ (ys : List _) (zs : List _). ys ++ zs) (take-take m (m + n) xs (omega arith)) (drop-take m n xs)

first_part : {A : Type 0} (P : A → Type 0) (xs ys : List A) → All P (xs ++ ys) → All P xs
first_part P xs ys all k d l = subst P (get_or_append_left xs ys d k l) (all k d (let n = length-append xs ys in omega (arith, l, n)))

second_part : {A : Type 0} (P : A → Type 0) (xs ys : List A) → All P (xs ++ ys) → All P ys
second_part P xs ys all k d l = subst P (get_or-append-add xs ys k d) (all (length xs + k) d (let n = length-append xs ys in omega (arith, l, n)))

module _ (net : Parts) (v : List Bool) (wide : length v ≡ columns net) (known : (s : Sig) → IsSignal net s → wire (fix net (bits v)) s ≢ X) where
  abbrev values : List Trit
  values = fix net (bits v)

  -- one gate
  pub gate_tells : (g : ℕ) → g < length net.gates → (name : List ℕ) (wires : List WireValue) → gate_at net g ≡ and_gate name wires → All (λ e. IsSignal net e.wire) wires → (wire values (gate_sig net g) ≡ One) ↔ All (Holds values) wires
  gate_tells g l name wires is signals =
      let tells = and_tells values wires (λ k d inside. known (get_or wires k d).wire (signals k d inside)) in
      let size : length (bits v) ≡ columns net = length-map v bit ∙ wide in
      let at : wire values (gate_sig net g) ≡ ext (and_gate name wires).cover (map (wire values) (and_gate name wires).pins) =
      ap (λ (k : ℕ). get_or values k X) (let e : columns net + g ≡ length (bits v) + g = omega (arith, size) in e)
      ∙ get_or-append-add (bits v) (fix_gates net (bits v)) g X
      ∙ get_or-fix net (bits v) g l
      ∙ ap (λ (gate : Gate). ext gate.cover (map (wire values) gate.pins)) is in
      (λ one. tells.0 (sym at ∙ one), λ hold. at ∙ tells.1 hold)

  -- ---- the gates that tell of wires

  module _ (mark : List ℕ) (total base number : ℕ) (wires : List WireValue) (g : ℕ) (at : columns net + g ≡ base + number) (stands : StandsFrom net g (telling mark total base number wires))
      (room : g + telling_gates (length wires) ≤ length net.gates) (signals : All (λ e. IsSignal net e.wire) wires) where
    gate_is : (k : ℕ) → k < telling_gates (length wires) → gate_at net (g + k) ≡ and_gate (telling_name mark total (number + k)) (linked_piece (base + number) wires k)
    gate_is k l =
        stands k (let n = length-telling mark total base number wires in omega (arith, l, n))
        ∙ get_or-map-range_with_len (λ j. and_gate (telling_name mark total (number + j)) (linked_piece (base + number) wires j)) 0 (telling_gates (length wires)) k k no_gate l (omega arith)

    piece_signals : (k : ℕ) → All (λ e. IsSignal net e.wire) (piece wires k)
    piece_signals k = All-take (λ e. IsSignal net e.wire) PIECE (drop (PIECE * k) wires) (All-drop (λ e. IsSignal net e.wire) (PIECE * k) wires signals)

    tells_upto : (k : ℕ) → k < telling_gates (length wires) → (wire values (gate_sig net (g + k)) ≡ One) ↔ All (Holds values) (take (PIECE * (k + 1)) wires)
    tells_upto zero l = gate_tells (g + zero) (omega (arith, l, room)) (telling_name mark total (number + zero)) (linked_piece (base + number) wires zero) (gate_is zero l) (piece_signals zero)
    tells_upto (suc j) l =
        let before = tells_upto j (omega (arith, l)) in
        let link_wire : WireValue = wire_value (signal (base + number + j)) true in
        let prior : gate_sig net (g + j) ≡ signal (base + number + j) = ap signal (let e : columns net + (g + j) ≡ base + number + j = omega (arith, at) in e) in
        let inside : IsSignal net (signal (base + number + j)) = let r = room in omega (arith, at, l, r) in
        let linked : All (λ e. IsSignal net e.wire) (link_wire ∷ piece wires (suc j)) = All-append (λ e. IsSignal net e.wire) (link_wire ∷ []) (piece wires (suc j)) (one_signal link_wire inside) (piece_signals (suc j)) in
        let here = gate_tells (g + suc j) (omega (arith, l, room)) (telling_name mark total (number + suc j)) (linked_piece (base + number) wires (suc j)) (gate_is (suc j) l) linked in
        let split : take (PIECE * (suc j + 1)) wires ≡ take (PIECE * (j + 1)) wires ++ piece wires (suc j) =
        ap (λ n. take n wires) (let e : PIECE * (suc j + 1) ≡ PIECE * suc j + PIECE = omega arith in e)
        ∙ take_split (PIECE * suc j) PIECE wires
        ∙ ap (λ n. take n wires ++ piece wires (suc j)) (let e : PIECE * suc j ≡ PIECE * (j + 1) = omega arith in e) in (
          λ one.
              let all = here.0 one in
              let first : Holds values link_wire = first_part (Holds values) (link_wire ∷ []) (piece wires (suc j)) all 0 link_wire (omega arith) in
              subst (All (Holds values)) (sym split)
              (All-append (Holds values) (take (PIECE * (j + 1)) wires) (piece wires (suc j)) (before.0 (ap (wire values) prior ∙ first)) (second_part (Holds values) (link_wire ∷ []) (piece wires (suc j)) all)),
          λ hold.
              let all = subst (All (Holds values)) split hold in
              let first : Holds values link_wire = ap (wire values) (sym prior) ∙ before.1 (first_part (Holds values) (take (PIECE * (j + 1)) wires) (piece wires (suc j)) all) in
              here.1 (All-append (Holds values) (link_wire ∷ []) (piece wires (suc j)) (one_holds link_wire first) (second_part (Holds values) (take (PIECE * (j + 1)) wires) (piece wires (suc j)) all)),
        )
      where
        one_signal : (e : WireValue) → IsSignal net e.wire → All (λ e. IsSignal net e.wire) (e ∷ [])
        one_signal e is zero d l = is
        one_signal e is (suc k) d l = absurd (omega (arith, l))

        one_holds : (e : WireValue) → Holds values e → All (Holds values) (e ∷ [])
        one_holds e is zero d l = is
        one_holds e is (suc k) d l = absurd (omega (arith, l))

    -- the last of them is 1 just where all wires have their values
    pub last_tells : (wire values (signal (base + number + telling_gates (length wires) - 1)) ≡ One) ↔ All (Holds values) wires
    last_tells =
        let k : ℕ = telling_gates (length wires) - 1 in
        let tells = tells_upto k (omega arith) in
        let is : gate_sig net (g + k) ≡ signal (base + number + telling_gates (length wires) - 1) = ap signal (let e : columns net + (g + k) ≡ base + number + telling_gates (length wires) - 1 = omega (arith, at) in e) in
        let all : take (PIECE * (k + 1)) wires ≡ wires = take_all (PIECE * (k + 1)) wires (omega arith) in (
          λ one. subst (All (Holds values)) all (tells.0 (ap (wire values) is ∙ one)),
          λ hold. ap (wire values) (sym is) ∙ tells.1 (subst (All (Holds values)) (sym all) hold),
        )

  -- ---- the gates that tell of rows

  zero_not_one : (t : Trit) → t ≢ X → (t ≡ Zero) ↔ (¬ (t ≡ One))
  zero_not_one t known = (λ e f. zero_one (sym e ∙ f), λ n. by t known n)
    where
      zero_one : Zero ≡ One → ⊥
      zero_one e = cc

      by : (t : Trit) → t ≢ X → (¬ (t ≡ One)) → t ≡ Zero
      by Zero k n = refl
      by One k n = absurd (n refl)
      by X k n = absurd (k refl)

  pub rows_tell : (mark : List ℕ) (total base : ℕ) (table : List ℕ) (rows : List Row) (number g : ℕ) → columns net + g ≡ base + number → StandsFrom net g (row_gates mark total base table number rows) →
      g + telling_of_rows rows ≤ length net.gates → AllByRecursion (λ row. All (λ e. IsSignal net e.wire) (placed_row table row)) rows →
      AllByRecursion (Holds values) (row_outputs base number rows) ↔ AllByRecursion (λ row. ¬ All (Holds values) (placed_row table row)) rows
  rows_tell mark total base table [] number g at stands room signals = (λ h. tt, λ h. tt)
  rows_tell mark total base table (row ∷ rows) number g at stands room signals =
      let n : ℕ = telling_gates (length row.values) in
      let here = telling mark total base number (placed_row table row) in
      let rest = row_gates mark total base table (number + n) rows in
      let size : telling_gates (length (placed_row table row)) ≡ n = ap telling_gates (length-placed table row) in
      let long : length here ≡ n = length-telling mark total base number (placed_row table row) ∙ size in
      let sum = told_cons row rows in
      let tells = last_tells mark total base number (placed_row table row) g at (stands-first net g here rest stands) (omega (arith, room, size, sum)) signals.0 in
      let others = rows_tell mark total base table rows (number + n) (g + n) (omega (arith, at)) (stands-second net g (g + n) here rest (omega (arith, long)) stands) (omega (arith, room, sum)) signals.1 in
      let out : Sig = signal (base + number + n - 1) in
      let same : signal (base + number + telling_gates (length (placed_row table row)) - 1) ≡ out = ap (λ (k : ℕ). signal (base + number + k - 1)) size in
      let inside : IsSignal net out = omega (arith, at, room, sum) in
      let either = zero_not_one (wire values out) (known out inside) in (
        λ h. (λ hold. either.0 h.0 (ap (wire values) (sym same) ∙ tells.1 hold), others.0 h.1),
        λ h. (either.1 (λ one. h.0 (tells.0 (ap (wire values) same ∙ one))), others.1 h.1),
      )
