-- Shannon's expansion of rows.
use Rattle.std.proofs.Common.{◌≡◌, ℕ, zero, suc, ◌+◌, ◌<◌, ◌≤◌, Bool, true, false, ◌&&◌, ◌||◌, ◌⊎◌, inl, inr, List, [], ◌∷◌, ◌++◌, length, drop, replicate, get_or, Result, Ok, IfOk, refl, sym, ap, subst, ◌∙◌, arith, add-one, append_assoc, length-append, length-drop, true≢false}
use Rattle.std.proofs.lemmas.List.Folds.{Any-from_list_any, list_any-from_Any}
use Rattle.dual_rail.proofs.Common.{length_push, All-get_or, list_any, list_all, All, range_with_len, Node, Arena, complemented, den, top_of, IsNodeOf, KeepsNodes, IsPart, Lit, Zero, One, Any, Row, matches, lits_of, matches_from, remainder, narrowed, IsExpansion}
use Rattle.std.proofs.lemmas.List.{get_or_at, drop_at, length-replicate}
use Rattle.std.specs.List.{filter}
use Rattle.bdd_store.specs.Arena.{choice}
use Rattle.bdd_store.specs.Growth.{NewAreParts, IsNewFunction, IsRefusedPart}
use Rattle.bdd_store.proofs.SubfunctionLemmas.{IsPart-whole, IsPart-alike}
use Rattle.bdd_store.proofs.GrowthLemmas.{NewAreParts-made, NewAreParts-part, IsRefusedPart-made, IsRefusedPart-part}
use Rattle.cover_logic.specs.Covers.{allows, some_row_matches, value_of_rows}
use Rattle.dual_rail.specs.Expansion.{literal, is_any, is_settled, in_plane, AreBranches}

-- ---- lists

pub any_same : (f g : ℕ → Bool) → ((x : ℕ) → f x ≡ g x) → (xs : List ℕ) → list_any f xs ≡ list_any g xs
any_same f g h [] = refl
any_same f g h (x ∷ xs) = λ j. h x j || any_same f g h xs j

any_filter : (p q : ℕ → Bool) (xs : List ℕ) → list_any (λ x. p x && q x) xs ≡ list_any q (filter p xs)
any_filter p q [] = refl
any_filter p q (x ∷ xs) = grind (arith, any_filter p q xs)

pub any_weaker : (f g : ℕ → Bool) → ((x : ℕ) → f x ≡ true → g x ≡ true) → (xs : List ℕ) → list_any f xs ≡ true → list_any g xs ≡ true
any_weaker f g h xs e = grind (arith, Any-from_list_any f xs e, list_any-from_Any g xs)

-- ---- literals

step_lits : (lits : List Lit) (bits : List Bool) (pin : ℕ) → pin < length bits → matches (drop pin lits) (drop pin bits) ≡ (allows (get_or lits pin Any) (get_or bits pin false) && matches (drop (suc pin) lits) (drop (suc pin) bits))
step_lits [] bits zero h = refl
step_lits [] bits (suc pin) h = refl
step_lits (l ∷ lits) [] pin h = absurd (omega arith)
step_lits (l ∷ lits) (b ∷ bits) zero h = refl
step_lits (l ∷ lits) (b ∷ bits) (suc pin) h = step_lits lits bits pin (omega arith)

settled_lits : (lits : List Lit) (bits : List Bool) → list_all is_any lits ≡ true → matches lits bits ≡ true
settled_lits [] bits h = refl
settled_lits (l ∷ lits) [] h = refl
settled_lits (Zero ∷ lits) (b ∷ bits) h = absurd (true≢false (sym h))
settled_lits (One ∷ lits) (b ∷ bits) h = absurd (true≢false (sym h))
settled_lits (Any ∷ lits) (b ∷ bits) h = settled_lits lits bits h

drop-nil : (lits : List Lit) (pin : ℕ) → list_all is_any (drop pin lits) ≡ false → pin < length lits
drop-nil [] zero h = absurd (true≢false h)
drop-nil [] (suc pin) h = absurd (true≢false h)
drop-nil (l ∷ lits) zero h = omega arith
drop-nil (l ∷ lits) (suc pin) h = let less = drop-nil lits pin h in omega (arith, less)

-- ---- where the rows decide

in_plane-true : (plane : Bool) → in_plane plane true ≡ plane
in_plane-true plane = grind arith

-- a row that asks nothing more matches
pub remainder-settled : (rows : List Row) (plane : Bool) (pin : ℕ) (live : List ℕ) → list_any (is_settled rows pin) live ≡ true → (bits : List Bool) → remainder rows plane pin live bits ≡ plane
remainder-settled rows plane pin live h bits = grind (arith, any_weaker (is_settled rows pin) (matches_from rows pin bits), settled_lits, in_plane-true plane)

-- the literals of a row that is there, or none
pub lits_at : (rows : List Row) (n : ℕ) → ((d : Row) → (n < length rows) × (lits_of rows n ≡ (get_or rows n d).lits)) ⊎ (lits_of rows n ≡ [])
lits_at [] n = inr refl
lits_at (row ∷ rows) zero = inl (λ d. (omega arith, refl))
lits_at (row ∷ rows) (suc n) = elim (lits_at rows n) [ inl there ↦ inl (λ d. let less = (there d).0 in (omega (arith, less), (there d).1)) | inr none ↦ inr none ]

within_row : (rows : List Row) (n pin pins : ℕ) → All (λ row. length row.lits ≡ pins) rows → pin < length (lits_of rows n) → pin < pins
within_row rows n pin pins width less = elim (lits_at rows n) [
  | inl there ↦
      let none : Row = record { lits = [] } in
      subst (λ m. pin < m) (ap length (there (record { lits = [] })).1 ∙ All-get_or (λ (row : Row). length row.lits ≡ pins) rows n (record { lits = [] }) (there (record { lits = [] })).0 width) less
  | inr none ↦ absurd (omega (arith, less, ap length none))
]

-- one that asks more has a literal at this pin
pub asks_within : (rows : List Row) (pin : ℕ) (live : List ℕ) (pins : ℕ) → All (λ row. length row.lits ≡ pins) rows → (live ≡ [] → ⊥) → list_any (is_settled rows pin) live ≡ false → pin < pins
asks_within rows pin [] pins width some none = absurd (some refl)
asks_within rows pin (row ∷ live) pins width some none = grind (arith, true≢false, within_row rows row pin pins width, drop-nil (lits_of rows row) pin)

-- ---- one pin

-- where the pin has this value
pub remainder-narrowed : (rows : List Row) (plane : Bool) (pin : ℕ) (live : List ℕ) (b : Bool) (bits : List Bool) → pin < length bits → get_or bits pin false ≡ b → remainder rows plane pin live bits ≡ remainder rows plane (pin + 1) (narrowed rows pin b live) bits
remainder-narrowed rows plane pin live b bits less read =
    ap (in_plane plane)
    (any_same (matches_from rows pin bits) (λ row. allows (literal rows row pin) b && matches_from rows (pin + 1) bits row)
    (λ row. step_lits (lits_of rows row) bits pin less ∙ (λ j. allows (literal rows row pin) (read j) && matches (drop (sym (add-one pin) j) (lits_of rows row)) (drop (sym (add-one pin) j) bits))) live
    ∙ any_filter (λ row. allows (literal rows row pin) b) (matches_from rows (pin + 1) bits) live)

-- what is left then is a part
module _ (rows : List Row) (plane : Bool) (pin : ℕ) (live : List ℕ) (b : Bool) where
  abbrev first : List Bool
  first = replicate pin false ++ b ∷ []

  length-first : length first ≡ pin + 1
  length-first = omega (arith, length_push (replicate pin false) b, length-replicate pin false)

  read_first : (bits : List Bool) → get_or (first ++ drop (length first) bits) pin false ≡ b
  read_first bits = ap (λ l. get_or l pin false) (append_assoc (replicate pin false) (b ∷ []) (drop (length first) bits)) ∙ get_or_at (replicate pin false) b (drop (length first) bits) false pin (length-replicate pin false)

  later : (bits : List Bool) → remainder rows plane (pin + 1) (narrowed rows pin b live) bits ≡ remainder rows plane (pin + 1) (narrowed rows pin b live) (first ++ drop (length first) bits)
  later bits = grind (arith, length-first, drop_at first (drop (length first) bits) (pin + 1) length-first)

  pub IsPart-narrowed : (vars : ℕ) → pin < vars → IsPart vars (remainder rows plane pin live) (remainder rows plane (pin + 1) (narrowed rows pin b live))
  IsPart-narrowed vars less = record {
    first = first;
    short = omega (arith, length-first);
    same = λ bits len. later bits ∙ sym (remainder-narrowed rows plane pin live b (first ++ drop (length first) bits) (omega (arith, length-first, length-append first (drop (length first) bits), length-drop (length first) bits)) (read_first bits));
  }

-- ---- nodes

pub IsExpansion-kept : {rows : List Row} {plane : Bool} {s t : Arena} {pin : ℕ} {live : List ℕ} {n : Node} → KeepsNodes s t → IsExpansion rows plane s pin live n → IsExpansion rows plane t pin live n
IsExpansion-kept {n = n} k is = grind arith

-- Shannon's expansion
pub choice-remainder : {rows : List Row} {plane : Bool} {s : Arena} {pin : ℕ} {live : List ℕ} {low high : Node} → pin < s.vars → AreBranches rows plane s pin live low high → (bits : List Bool) → length bits ≡ s.vars → choice s pin low high bits ≡ remainder rows plane pin live bits
choice-remainder {rows} {plane} {s} {pin} {live} {low} {high} less are bits len = grind (arith, remainder-narrowed rows plane pin live)

module _ {rows : List Row} {plane : Bool} {s : Arena} {pin : ℕ} {live : List ℕ} {low high : Node} (less : pin < s.vars) (are : AreBranches rows plane s pin live low high) (t : Arena) where
  -- the node that is made of both
  pub IsExpansion-made : KeepsNodes s t → (n : Node) → IsNodeOf t n → ((bits : List Bool) → den t n bits ≡ choice s pin low high bits) → pin ≤ top_of t n → IsExpansion rows plane t pin live n
  IsExpansion-made k n node function top = record { node = node; function = λ bits len. function bits ∙ choice-remainder less are bits (len ∙ k.vars); top = top }

  IsPart-choice : IsPart s.vars (remainder rows plane pin live) (choice s pin low high)
  IsPart-choice = IsPart-alike (IsPart-whole s.vars (remainder rows plane pin live)) (choice-remainder less are)

  pub NewAreParts-choice : {E : Type 0} (r : Result Node E) → ((n : Node) → IsNodeOf t n → IsNodeOf s n ⊎ ((r ≡ Ok n) ⊎ (r ≡ Ok (complemented n)))) → IfOk r (λ n. (bits : List Bool) → den t n bits ≡ choice s pin low high bits) → NewAreParts s t (remainder rows plane pin live)
  NewAreParts-choice r one function = NewAreParts-part IsPart-choice (NewAreParts-made s t (choice s pin low high) r one function)

  pub IsRefusedPart-choice : t ≡ s → length s.entries ≡ s.limit → IsNewFunction s (choice s pin low high) → IsRefusedPart t (remainder rows plane pin live)
  IsRefusedPart-choice e full absent = IsRefusedPart-part (subst (λ (u : Arena). IsPart u.vars (remainder rows plane pin live) (choice s pin low high)) (sym e) IsPart-choice) (IsRefusedPart-made s t (choice s pin low high) e full absent)

-- ---- all rows

-- at first all rows are live, and what is left is the whole value
lits_behind : (before rows : List Row) (row : Row) (n : ℕ) → length before ≡ n → lits_of (before ++ row ∷ rows) n ≡ row.lits
lits_behind [] rows row zero e = refl
lits_behind [] rows row (suc n) e = absurd (omega arith)
lits_behind (b ∷ before) rows row zero e = absurd (omega arith)
lits_behind (b ∷ before) rows row (suc n) e = lits_behind before rows row n (omega arith)

any_numbers : (P : List Lit → Bool) (before rows : List Row) (n : ℕ) → length before ≡ n → list_any (λ row. P (lits_of (before ++ rows) row)) (range_with_len n (length rows)) ≡ list_any (λ row. P row.lits) rows
any_numbers P before [] n e = refl
any_numbers P before (row ∷ rows) n e = grind (arith, any_numbers P (before ++ row ∷ []) rows (suc n), length_push before row, add-one n, lits_behind before rows row n e, append_assoc before (row ∷ []) rows)

pub remainder-whole : (rows : List Row) (plane : Bool) → (rows ≡ [] → plane ≡ true) → (bits : List Bool) → remainder rows plane 0 (range_with_len 0 (length rows)) bits ≡ value_of_rows plane rows bits
remainder-whole rows plane on bits = ap (in_plane plane) (any_numbers (λ lits. matches lits bits) [] rows 0 refl) ∙ by plane rows on
  where
    by : (p : Bool) (rs : List Row) → (rs ≡ [] → p ≡ true) → in_plane p (some_row_matches rs bits) ≡ value_of_rows p rs bits
    by true rs h = refl
    by false [] h = absurd (true≢false (sym (h refl)))
    by false (r ∷ rs) h = refl
