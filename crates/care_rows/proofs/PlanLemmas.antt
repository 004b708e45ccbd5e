-- What holds of what is kept, and where its signals stand.
use Rattle.std.proofs.Common.{◌≡◌, inl, inr, ℕ, ◌+◌, ◌-◌, ◌<◌, ◌≤◌, List, length, get_or, All, Some, true, refl, ap, ◌∙◌, arith}
use Rattle.care_rows.proofs.Common.{AnyGate, IsLoopFree, IsNetlist, IsSignal, Leads, Parts, Plan, Sig, all_marked, assumed_size, assumed_signal, base_of, cases_lt, columns, first_assumed, gate_at, gate_sig, get_or-map, inputs_of, is_marked, le-ltb, length-map, lt-ltb, model_of, kept_signal, rank, signal, table_of}
use Rattle.care_rows.proofs.RankLemmas.{rank_below}
use Rattle.care_rows.proofs.LayoutLemmas.{column_place, columns-model, gate_place}

-- a signal that is kept
pub record IsKeptSignal (p : Plan) (s : Sig) : Type 0 where
  pub inside : IsSignal p.net s
  pub column : s.0 < columns p.net → is_marked p.used s.0 ≡ true
  pub gate : columns p.net ≤ s.0 → is_marked p.cone (s.0 - columns p.net) ≡ true

-- an assumption, with a column for each of its inputs
pub record IsOldOf (p : Plan) (old : Parts) : Type 0 where
  pub valid : IsNetlist old
  pub latches : length old.latches ≡ 0
  pub outputs : length old.outputs ≡ 1
  pub loop_free : IsLoopFree old
  pub inputs : length p.assumed ≡ length old.inputs

-- With each gate that is kept all is that it reads, and so are the wires of the rows and the columns of the assumption.
-- No such gate is on a loop.
pub record Fits (p : Plan) : Type 0 where
  pub valid : IsNetlist p.net
  pub used_width : length p.used ≡ columns p.net
  pub cone_width : length p.cone ≡ length p.net.gates
  pub closed : (n : ℕ) → n < length p.net.gates → is_marked p.cone n ≡ true → All (IsKeptSignal p) (gate_at p.net n).pins
  pub off_loops : (n : ℕ) → n < length p.net.gates → is_marked p.cone n ≡ true → ¬ Leads p.net AnyGate n n
  pub wires : All (λ row. All (λ e. IsKeptSignal p e.wire) row.values) p.rows
  pub columns_below : All (λ column. column < columns p.net) p.assumed
  pub columns_used : All (λ column. is_marked p.used column ≡ true) p.assumed
  pub old : (old : Parts) → p.old ≡ Some old → IsOldOf p old

module _ (p : Plan) (mark : List ℕ) (fits : Fits p) where
  abbrev pub inputs : ℕ
  inputs = rank p.used (length p.used)

  pub column_stands : (s : ℕ) → s < columns p.net → get_or (table_of p) s 0 ≡ rank p.used s
  column_stands s l = column_place p.used p.cone s (let w = fits.used_width in omega (arith, l, w))

  pub column_low : (s : ℕ) → s < columns p.net → is_marked p.used s ≡ true → get_or (table_of p) s 0 < inputs
  column_low s l is = let e = column_stands s l in let b = rank_below p.used s (length p.used) (let w = fits.used_width in omega (arith, l, w)) is in omega (arith, e, b)

  pub gate_stands : (n : ℕ) → n < length p.net.gates → get_or (table_of p) (columns p.net + n) 0 ≡ inputs + rank p.cone n
  gate_stands n l =
      ap (λ (k : ℕ). get_or (table_of p) k 0) (let w = fits.used_width in let e : columns p.net + n ≡ length p.used + n = omega (arith, w) in e)
      ∙ gate_place p.used p.cone n (let w = fits.cone_width in omega (arith, l, w))

  pub gate_low : (n : ℕ) → n < length p.net.gates → is_marked p.cone n ≡ true → rank p.cone n < length (all_marked p.cone)
  gate_low n l is = rank_below p.cone n (length p.cone) (let w = fits.cone_width in omega (arith, l, w)) is

  pub gate_moved : (n : ℕ) → n < length p.net.gates → kept_signal (table_of p) (gate_sig p.net n) ≡ gate_sig (model_of p mark) (rank p.cone n)
  gate_moved n l = ap signal (gate_stands n l ∙ (let e = columns-model p mark in let f : inputs + rank p.cone n ≡ columns (model_of p mark) + rank p.cone n = omega (arith, e) in f))

  -- what is kept stands below the assumption's gates
  pub kept_low : (s : Sig) → IsKeptSignal p s → (kept_signal (table_of p) s).0 < first_assumed p
  kept_low s kept =
      elim (cases_lt s.0 (columns p.net)) [
        | inl low ↦ let e = column_low s.0 low (kept.column low) in omega (arith, e)
        | inr high ↦
            let n : ℕ = s.0 - columns p.net in
            let inside = kept.inside in
            let less : n < length p.net.gates = omega (arith, inside, high) in
            let e = gate_stands n less in
            let f = ap (λ (k : ℕ). get_or (table_of p) k 0) (let g : s.0 ≡ columns p.net + n = omega (arith, high) in g) in
            let b = gate_low n less (kept.gate high) in
            omega (arith, e, f, b)
      ]

  -- ---- the assumption's signals

  module _ (old : Parts) (is : p.old ≡ Some old) where
    pub length-inputs : length (inputs_of p) ≡ length old.inputs
    length-inputs = length-map p.assumed _ ∙ (fits.old old is).inputs

    pub input_moved : (s : Sig) → s.0 < length old.inputs → assumed_signal (inputs_of p) (first_assumed p) s ≡ signal (get_or (table_of p) (get_or p.assumed s.0 0) 0)
    input_moved s l =
        let n = length-inputs in
        let w = (fits.old old is).inputs in
        (rw (lt-ltb s.0 (length (inputs_of p)) (omega (arith, l, n))) refl)
        ∙ ap signal (get_or-map (λ column. get_or (table_of p) column 0) p.assumed s.0 0 0 (omega (arith, l, w)))

    pub old_moved : (s : Sig) → length old.inputs ≤ s.0 → assumed_signal (inputs_of p) (first_assumed p) s ≡ signal (first_assumed p + (s.0 - length old.inputs))
    old_moved s l =
        let n = length-inputs in
        (rw (le-ltb s.0 (length (inputs_of p)) (omega (arith, l, n))) refl)
        ∙ ap signal (let e : first_assumed p + (s.0 - length (inputs_of p)) ≡ first_assumed p + (s.0 - length old.inputs) = omega (arith, n) in e)

    pub input_low : (s : Sig) → s.0 < length old.inputs → (assumed_signal (inputs_of p) (first_assumed p) s).0 < inputs
    input_low s l =
        let w = (fits.old old is).inputs in
        let inside : s.0 < length p.assumed = omega (arith, l, w) in
        let e = ap (λ (t : Sig). t.0) (input_moved s l) in
        let b = column_low (get_or p.assumed s.0 0) (fits.columns_below s.0 0 inside) (fits.columns_used s.0 0 inside) in
        omega (arith, e, b)

    -- all stand below the gates that tell
    pub assumed_low : (s : Sig) → IsSignal old s → (assumed_signal (inputs_of p) (first_assumed p) s).0 < base_of p
    assumed_low s inside =
        elim (cases_lt s.0 (length old.inputs)) [
          | inl low ↦ let b = input_low s low in omega (arith, b)
          | inr high ↦
              let e = ap (λ (t : Sig). t.0) (old_moved s high) in
              let none = (fits.old old is).latches in
              let size = ap assumed_size is in
              omega (arith, e, none, size, inside, high)
        ]
