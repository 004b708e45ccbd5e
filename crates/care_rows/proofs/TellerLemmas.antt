-- The gates that tell of rows, while they are added.
use Rattle.std.proofs.Common.{◌≡◌, inl, inr, ℕ, ◌+◌, ◌-◌, ◌≤◌, List, ◌++◌, length, take, drop, refl, sym, ap, ◌∙◌, arith}
use Rattle.std.specs.Prelude.{min}
use Rattle.care_rows.specs.declared.telling.TheConstants.{PIECE}
use Rattle.care_rows.proofs.Common.{Gate, Row, WireValue, append_assoc, cases_lt, length-append, row_gates, row_outputs, take_all, telling, telling_gates, telling_of_rows}
use Rattle.care_rows.proofs.LayoutLemmas.{length-outputs}
use Rattle.std.proofs.lemmas.List.{length-drop}

-- so many gates and outputs are there, where the rows from row i on are left
pub record ToldSoFar (mark : List ℕ) (total base : ℕ) (table : List ℕ) (rows : List Row) (old : List Gate) (before : List WireValue) (i number : ℕ) (gates : List Gate) (outputs : List WireValue) : Type 0 where
  pub gates_are : gates ++ row_gates mark total base table number (drop i rows) ≡ old ++ row_gates mark total base table 0 rows
  pub outputs_are : outputs ++ row_outputs base number (drop i rows) ≡ before ++ row_outputs base 0 rows
  pub left : number + telling_of_rows (drop i rows) ≡ telling_of_rows rows

module _ (mark : List ℕ) (total base : ℕ) (table : List ℕ) (rows : List Row) (old : List Gate) (before : List WireValue) where
  pub told-start : ToldSoFar mark total base table rows old before 0 0 old before
  told-start = record { gates_are = refl; outputs_are = refl; left = omega arith }

-- a piece of a list
pub piece_is : {A : Type 0} (xs : List A) (start end : ℕ) → start ≤ length xs → end ≡ min (length xs) (start + PIECE) → take (end - start) (drop start xs) ≡ take PIECE (drop start xs)
piece_is xs start end inside is =
    let size = length-drop start xs in
    elim (cases_lt (length xs) (start + PIECE)) [
      | inl low ↦
          take_all (end - start) (drop start xs) (omega (arith, size, is, low, inside))
          ∙ sym (take_all PIECE (drop start xs) (omega (arith, size, low, inside)))
      | inr high ↦ ap (λ n. take n (drop start xs)) (let e : end - start ≡ PIECE = omega (arith, is, high, inside) in e)
    ]

-- ---- all of them

module _ (mark : List ℕ) (total base : ℕ) (table : List ℕ) (rows : List Row) (before conditions : List WireValue) (enough : total ≡ telling_of_rows rows + telling_gates (length before + length rows)) (are : conditions ≡ before ++ row_outputs base 0 rows) where
  last_size : telling_gates (length conditions) ≡ telling_gates (length before + length rows)
  last_size = ap telling_gates (ap (λ (es : List WireValue). length es) are ∙ length-append before (row_outputs base 0 rows) ∙ ap (λ n. length before + n) (length-outputs base 0 rows))

  pub last_room : telling_gates (length conditions) ≤ total
  last_room = let s = last_size in omega (arith, s, enough)

  pub added_all : (old mid new : List Gate) → mid ≡ old ++ row_gates mark total base table 0 rows → new ≡ mid ++ telling mark total base (total - telling_gates (length conditions)) conditions →
      new ≡ old ++ (row_gates mark total base table 0 rows ++ telling mark total base (telling_of_rows rows) (before ++ row_outputs base 0 rows))
  added_all old mid new mid_is new_is =
      let number : total - telling_gates (length conditions) ≡ telling_of_rows rows = (let s = last_size in omega (arith, s, enough)) in
      new_is
      ∙ ap (λ (n : ℕ). mid ++ telling mark total base n conditions) number
      ∙ ap (λ (es : List WireValue). mid ++ telling mark total base (telling_of_rows rows) es) are
      ∙ ap (λ (gates : List Gate). gates ++ telling mark total base (telling_of_rows rows) (before ++ row_outputs base 0 rows)) mid_is
      ∙ append_assoc old (row_gates mark total base table 0 rows) (telling mark total base (telling_of_rows rows) (before ++ row_outputs base 0 rows))
