-- Where some row matches at each completion, by the unate recursive paradigm.
use Rattle.std.proofs.Common.{◌≡◌, ◌≢◌, ℕ, zero, suc, Bool, true, false, not, ◌&&◌, List, [], ◌∷◌, set, get_or, All, refl, ap, sym, ◌∙◌, subst, inl, inr, true≢false, ◌<◌, ◌≤◌, ◌+◌, length, slice_get, Some, arith}
use Rattle.std.proofs.lemmas.Bool.{and_parts, and_from, or_cases, or_parts, or_left, or_right, false_from_ne_true}
use Rattle.std.proofs.lemmas.List.Elements.{All-head, All-tail}
use Rattle.std.proofs.lemmas.List.{get_or_default, set-set, set-get_or}
use Rattle.std.proofs.lemmas.List.Folds.{list_any_at}
use Rattle.std.proofs.lemmas.Option.{get_or_from_slice_get}
use Rattle.std.specs.List.{list_any}
use Rattle.cyc_base.specs.declared.trit.Trit.{Trit}
use Rattle.cyc_base.specs.declared.trit.Trit.TheVariants.{Zero, One, X}
use Rattle.cyc_base.specs.Values.{bit, Below, Completes}
use Rattle.cyc_base.proofs.OrderLemmas.{Below-refl, Below-bit, same_bit}
use Rattle.cyc_base.proofs.TruthLemmas.{same_truth}
use Rattle.cover_logic.specs.declared.row.Lit.{Lit}
use Rattle.cover_logic.specs.declared.row.Lit.TheVariants as lit
use Rattle.cover_logic.specs.declared.row.Row.{Row}
use Rattle.cover_logic.specs.Covers.{allows, matches, some_row_matches, value_of_rows}
use Rattle.cover_logic.specs.Extensions.{exact}
use Rattle.cover_logic.specs.Partial.{may_allow, must_allow, may_match, must_match, some_row_may_match, some_row_must_match, asks, some_row_asks, is_tautology, unknown_count}
use Rattle.cover_logic.proofs.ExtensionLemmas.{passes_above, passes_listed, some_completion, exact_from, exact_says, completes-set, completes-unset}

-- ---- one literal, one row

allows_must : (l : Lit) (trit : Trit) (b : Bool) → Below trit (bit b) → must_allow l trit ≡ true → allows l b ≡ true
allows_must l trit b c h = grind arith

allows_may : (l : Lit) (trit : Trit) (b : Bool) → Below trit (bit b) → allows l b ≡ true → may_allow l trit ≡ true
allows_may l trit b c h = grind arith

known_allow : (l : Lit) (trit : Trit) → trit ≢ X → may_allow l trit ≡ true → must_allow l trit ≡ true
known_allow l trit n h = grind arith

matches_must : (lits : List Lit) (trits : List Trit) (bs : List Bool) → Completes trits bs → must_match lits trits ≡ true → matches lits bs ≡ true
matches_must [] trits bs c h = refl
matches_must (l ∷ lits) [] [] c h = refl
matches_must (l ∷ lits) [] (b ∷ bs) c h = absurd c
matches_must (l ∷ lits) (t ∷ trits) [] c h = refl
matches_must (l ∷ lits) (t ∷ trits) (b ∷ bs) c h = grind (arith, and_parts, and_from, allows_must, matches_must lits trits bs c.1)

matches_may : (lits : List Lit) (trits : List Trit) (bs : List Bool) → Completes trits bs → matches lits bs ≡ true → may_match lits trits ≡ true
matches_may [] trits bs c h = refl
matches_may (l ∷ lits) [] bs c h = refl
matches_may (l ∷ lits) (t ∷ trits) [] c h = absurd c
matches_may (l ∷ lits) (t ∷ trits) (b ∷ bs) c h = grind (arith, and_parts, and_from, allows_may, matches_may lits trits bs c.1)

known_match : (lits : List Lit) (trits : List Trit) → All (λ trit. trit ≢ X) trits → may_match lits trits ≡ true → must_match lits trits ≡ true
known_match [] trits n h = refl
known_match (l ∷ lits) [] n h = refl
known_match (l ∷ lits) (t ∷ trits) n h =
    let p = and_parts (may_allow l t) (may_match lits trits) h in
    and_from (must_allow l t) (must_match lits trits) (known_allow l t (All-head (λ trit. trit ≢ X) t trits n) p.0)
    (known_match lits trits (All-tail (λ trit. trit ≢ X) t trits n) p.1)

-- a row that may match does at some completion
freed : Lit → Trit → Bool
freed l Zero = false
freed l One = true
freed lit.Zero X = false
freed lit.One X = true
freed lit.Any X = true

freed-above : (l : Lit) (t : Trit) → Below t (bit (freed l t))
unfolding freed
freed-above l Zero = refl
freed-above l One = refl
freed-above lit.Zero X = tt
freed-above lit.One X = tt
freed-above lit.Any X = tt

freed-allowed : (l : Lit) (t : Trit) → may_allow l t ≡ true → allows l (freed l t) ≡ true
unfolding freed
freed-allowed lit.Any t h = refl
freed-allowed lit.Zero Zero h = refl
freed-allowed lit.Zero One h = cc
freed-allowed lit.Zero X h = refl
freed-allowed lit.One Zero h = cc
freed-allowed lit.One One h = refl
freed-allowed lit.One X h = refl

may_completion : (lits : List Lit) (trits : List Trit) → may_match lits trits ≡ true → (bs : List Bool) × Completes trits bs × (matches lits bs ≡ true)
may_completion [] trits h = let some = some_completion trits in (some.0, some.1, refl)
may_completion (l ∷ lits) [] h = ([], tt, refl)
may_completion (l ∷ lits) (t ∷ trits) h =
    let p = and_parts (may_allow l t) (may_match lits trits) h in
    let rest = may_completion lits trits p.1 in
    (freed l t ∷ rest.0, (freed-above l t, rest.1), and_from (allows l (freed l t)) (matches lits rest.0) (freed-allowed l t p.0) rest.2)

pub matches_other : (lits : List Lit) (bs : List Bool) (pin : ℕ) (b : Bool) → asks lits pin b ≡ false → matches lits (set bs pin b) ≡ true → matches lits (set bs pin (not b)) ≡ true
matches_other [] bs pin b n h = refl
matches_other (l ∷ lits) [] pin b n h = refl
matches_other (l ∷ lits) (d ∷ bs) zero b n h = grind arith
matches_other (l ∷ lits) (d ∷ bs) (suc pin) b n h = grind (arith, and_parts, and_from, matches_other lits bs pin b n)

-- ---- all rows

-- one test passing more often than another, of some row
any_weaker : {A : Type 0} (f g : A → Bool) → ((x : A) → f x ≡ true → g x ≡ true) → (xs : List A) → list_any f xs ≡ true → list_any g xs ≡ true
any_weaker f g w [] h = h
any_weaker f g w (x ∷ xs) h = grind (arith, or_cases, or_left, or_right, any_weaker f g w xs)

-- a test passing where a second one fails for each element
any_unless : {A : Type 0} (f g h : A → Bool) → ((x : A) → f x ≡ true → h x ≡ false → g x ≡ true) → (xs : List A) → list_any h xs ≡ false → list_any f xs ≡ true → list_any g xs ≡ true
any_unless f g h w [] n e = e
any_unless f g h w (x ∷ xs) n e = grind (arith, or_parts, or_cases, or_left, or_right, any_unless f g h w xs)

some_match : (rows : List Row) (trits : List Trit) → some_row_may_match rows trits ≡ true → (bs : List Bool) × Completes trits bs × (some_row_matches rows bs ≡ true)
some_match [] trits h = absurd (true≢false (sym h))
some_match (row ∷ rows) trits h =
    elim (or_cases (may_match row.lits trits) (some_row_may_match rows trits) h) [
      | inl e ↦ let p = may_completion row.lits trits e in (p.0, p.1, or_left (matches row.lits p.0) (some_row_matches rows p.0) p.2)
      | inr e ↦ let p = some_match rows trits e in (p.0, p.1, or_right (matches row.lits p.0) (some_row_matches rows p.0) p.2)
    ]

none_matches : (rows : List Row) (trits : List Trit) (bs : List Bool) → Completes trits bs → some_row_may_match rows trits ≡ false → some_row_matches rows bs ≡ false
none_matches rows trits bs c h = grind (arith, false_from_ne_true, true≢false, any_weaker, matches_may)

pub sure : (rows : List Row) (trits : List Trit) → some_row_must_match rows trits ≡ true → is_tautology rows trits ≡ true
sure rows trits h = grind (arith, passes_listed, any_weaker, matches_must)

pub never : (rows : List Row) (trits : List Trit) → some_row_may_match rows trits ≡ false → is_tautology rows trits ≡ false
never rows trits h = grind (arith, some_completion trits, false_from_ne_true (is_tautology rows trits), true≢false, passes_above (some_row_matches rows) trits, none_matches rows trits)

-- where no pin is X, one of the two has decided
pub decided : (rows : List Row) (trits : List Trit) → All (λ trit. trit ≢ X) trits → some_row_may_match rows trits ≡ true → some_row_must_match rows trits ≡ true
decided rows trits n h = grind (arith, any_weaker, known_match)

-- ---- the cofactors at an unknown pin

pub completes-reset : (trits : List Trit) (bs : List Bool) (pin : ℕ) (d b : Bool) → Completes (set trits pin (bit d)) bs → Completes (set trits pin (bit b)) (set bs pin b)
completes-reset [] [] pin d b c = tt
completes-reset [] (e ∷ bs) pin d b c = absurd c
completes-reset (t ∷ trits) [] zero d b c = absurd c
completes-reset (t ∷ trits) [] (suc pin) d b c = absurd c
completes-reset (t ∷ trits) (e ∷ bs) zero d b c = (Below-refl (bit b), c.1)
completes-reset (t ∷ trits) (e ∷ bs) (suc pin) d b c = (c.0, completes-reset trits bs pin d b c.1)

pub set-completes : (trits : List Trit) (bs : List Bool) (pin : ℕ) (d : Bool) → Completes (set trits pin (bit d)) bs → set bs pin d ≡ bs
set-completes [] [] pin d c = refl
set-completes [] (e ∷ bs) pin d c = absurd c
set-completes (t ∷ trits) [] zero d c = absurd c
set-completes (t ∷ trits) [] (suc pin) d c = absurd c
set-completes (t ∷ trits) (e ∷ bs) zero d c = ap (λ b. b ∷ bs) (sym (same_bit e d (Below-bit d (bit e) c.0)))
set-completes (t ∷ trits) (e ∷ bs) (suc pin) d c = ap (λ r. e ∷ r) (set-completes trits bs pin d c.1)

at_bit : (rows : List Row) (trits : List Trit) (pin : ℕ) → is_tautology rows (set trits pin Zero) ≡ true → is_tautology rows (set trits pin One) ≡ true → (bs : List Bool) (b : Bool) → Completes (set trits pin (bit b)) bs → some_row_matches rows bs ≡ true
at_bit rows trits pin low high bs h c = grind (arith, passes_above)

cofactor : (rows : List Row) (trits : List Trit) (pin : ℕ) (b : Bool) → get_or trits pin X ≡ X → is_tautology rows trits ≡ true → is_tautology rows (set trits pin (bit b)) ≡ true
cofactor rows trits pin b x h =
    passes_listed (some_row_matches rows) (set trits pin (bit b))
    (λ bs c. passes_above (some_row_matches rows) trits h bs (completes-unset trits bs pin b x c))

pub both_cofactors : (rows : List Row) (trits : List Trit) (pin : ℕ) → get_or trits pin X ≡ X → (is_tautology rows (set trits pin Zero) && is_tautology rows (set trits pin One)) ≡ is_tautology rows trits
both_cofactors rows trits pin x =
    same_truth (is_tautology rows (set trits pin Zero) && is_tautology rows (set trits pin One)) (is_tautology rows trits)
    (λ e.
    let p = and_parts (is_tautology rows (set trits pin Zero)) (is_tautology rows (set trits pin One)) e in
    passes_listed (some_row_matches rows) trits
    (λ bs c. at_bit rows trits pin p.0 p.1 bs (get_or bs pin false) (completes-set trits bs pin c)))
    (λ e. and_from (is_tautology rows (set trits pin Zero)) (is_tautology rows (set trits pin One)) (cofactor rows trits pin false x e) (cofactor rows trits pin true x e))

-- by the two cofactors, of which the second one is asked only where the first one holds
pub first_fails : (rows : List Row) (trits : List Trit) (pin : ℕ) → get_or trits pin X ≡ X → is_tautology rows (set trits pin Zero) ≡ false → is_tautology rows trits ≡ false
first_fails rows trits pin x low = grind (arith, both_cofactors rows trits pin x)

pub first_holds : (rows : List Row) (trits : List Trit) (pin : ℕ) → get_or trits pin X ≡ X → is_tautology rows (set trits pin Zero) ≡ true → is_tautology rows (set trits pin One) ≡ is_tautology rows trits
first_holds rows trits pin x low = grind (arith, both_cofactors rows trits pin x)

asks_not : (a m : Bool) → (a && m) ≡ false → m ≡ true → a ≡ false
asks_not a m e h = grind arith

-- a cofactor at a value that no row asks for is the harder one
harder : (rows : List Row) (trits : List Trit) (pin : ℕ) (b : Bool) → get_or trits pin X ≡ X → some_row_asks rows trits pin b ≡ false → is_tautology rows (set trits pin (bit b)) ≡ true → is_tautology rows (set trits pin (bit (not b))) ≡ true
harder rows trits pin b x n h =
    passes_listed (some_row_matches rows) (set trits pin (bit (not b)))
    (λ bs c.
    let reset = completes-reset trits bs pin (not b) b c in
    let above = completes-unset trits (set bs pin b) pin b x reset in
    any_unless (λ row. matches row.lits (set bs pin b)) (λ row. matches row.lits bs) (λ row. asks row.lits pin b && may_match row.lits trits)
    (λ row m q.
    let a = asks_not (asks row.lits pin b) (may_match row.lits trits) q (matches_may row.lits trits (set bs pin b) above m) in
    subst (λ cs. matches row.lits cs ≡ true) (set-completes trits bs pin (not b) c) (matches_other row.lits bs pin b a m))
    rows n (passes_above (some_row_matches rows) (set trits pin (bit b)) h (set bs pin b) reset))

pub one_cofactor : (rows : List Row) (trits : List Trit) (pin : ℕ) (b : Bool) → get_or trits pin X ≡ X → some_row_asks rows trits pin b ≡ false → is_tautology rows (set trits pin (bit b)) ≡ is_tautology rows trits
one_cofactor rows trits pin false x n =
    grind (arith, same_truth (is_tautology rows (set trits pin Zero)) (is_tautology rows trits), both_cofactors rows trits pin x, and_from (is_tautology rows (set trits pin Zero)) (is_tautology rows (set trits pin One)), harder rows trits pin false x n, cofactor rows trits pin false x)
one_cofactor rows trits pin true x n =
    grind (arith, same_truth (is_tautology rows (set trits pin One)) (is_tautology rows trits), both_cofactors rows trits pin x, and_from (is_tautology rows (set trits pin Zero)) (is_tautology rows (set trits pin One)), harder rows trits pin true x n, cofactor rows trits pin true x)

-- where one cofactor is a tautology, the other one decides
pub other_decides : (rows : List Row) (trits : List Trit) (pin : ℕ) (b : Bool) → get_or trits pin X ≡ X → is_tautology rows (set trits pin (bit b)) ≡ true → is_tautology rows (set trits pin (bit (not b))) ≡ is_tautology rows trits
other_decides rows trits pin b x h = grind (arith, first_holds, same_truth, both_cofactors, and_from, cofactor)

-- ---- a step makes one unknown pin fewer

pub unknown_count-set : (trits : List Trit) (pin : ℕ) (b : Bool) → get_or trits pin Zero ≡ X → unknown_count trits ≡ suc (unknown_count (set trits pin (bit b)))
unknown_count-set [] pin b e = cc
unknown_count-set (X ∷ trits) zero true e = refl
unknown_count-set (X ∷ trits) zero false e = refl
unknown_count-set (Zero ∷ trits) zero b e = cc
unknown_count-set (One ∷ trits) zero b e = cc
unknown_count-set (X ∷ trits) (suc pin) b e = ap suc (unknown_count-set trits pin b e)
unknown_count-set (Zero ∷ trits) (suc pin) b e = unknown_count-set trits pin b e
unknown_count-set (One ∷ trits) (suc pin) b e = unknown_count-set trits pin b e

-- a step of the walk that gives pins their harder values
pub reduced : (rows : List Row) (before now after : List Trit) (pin : ℕ) (b : Bool) (t d : Trit) → pin < length now → get_or now pin d ≡ X → some_row_asks rows now pin b ≡ false → t ≡ bit b → after ≡ set now pin t → (is_tautology rows now ≡ is_tautology rows before) × (unknown_count now ≤ unknown_count before) → (is_tautology rows after ≡ is_tautology rows before) × (unknown_count after ≤ unknown_count before)
reduced rows before now after pin b t d l x n e k h = grind (arith, unknown_count-set, get_or_default, one_cofactor)

-- a row that surely matches where an unknown pin has one value gives the pin the other one
pub propagated : (rows : List Row) (row : ℕ) (d : Row) (lits : List Lit) (trits : List Trit) (pin : ℕ) (b : Bool) (tried left : Trit) → row < length rows → lits ≡ (get_or rows row d).lits → slice_get trits pin ≡ Some X → tried ≡ bit b → left ≡ bit (not b) → must_match lits (set trits pin tried) ≡ true → (is_tautology rows (set (set trits pin tried) pin left) ≡ is_tautology rows trits) × (unknown_count (set (set trits pin tried) pin left) + 1 ≤ unknown_count trits)
propagated rows row d lits trits pin b tried left l is x t k m = grind (arith, set-set, sure, list_any_at, unknown_count-set, get_or_from_slice_get, other_decides)

-- and else the pin is left as it was
pub set_back : (trits : List Trit) (pin : ℕ) (tried left : Trit) → slice_get trits pin ≡ Some X → left ≡ X → set (set trits pin tried) pin left ≡ trits
set_back trits pin tried left x k = grind (arith, set-set trits pin tried left, get_or_from_slice_get trits pin X X x, set-get_or trits pin X)

-- ---- the extension, by what was found of the rows

in_plane : Bool → Bool → Bool
in_plane true b = b
in_plane false b = not b

in_plane-one_one : (plane a b : Bool) → in_plane plane a ≡ in_plane plane b → a ≡ b
unfolding in_plane
in_plane-one_one true a b e = e
in_plane-one_one false true true e = refl
in_plane-one_one false false false e = refl
in_plane-one_one false true false e = cc
in_plane-one_one false false true e = cc

in_plane-true : (plane : Bool) → in_plane plane true ≡ plane
unfolding in_plane
in_plane-true true = refl
in_plane-true false = refl

in_plane-false : (plane : Bool) → in_plane plane false ≡ not plane
unfolding in_plane
in_plane-false true = refl
in_plane-false false = refl

value_in_plane : (plane : Bool) (rows : List Row) (bs : List Bool) → (rows ≡ [] → plane ≡ true) → value_of_rows plane rows bs ≡ in_plane plane (some_row_matches rows bs)
unfolding in_plane
value_in_plane true rows bs n = refl
value_in_plane false [] bs n = absurd (true≢false (sym (n refl)))
value_in_plane false (row ∷ rows) bs n = refl

not_bit : (x : Trit) → ((b : Bool) → x ≡ bit b → ⊥) → x ≡ X
not_bit X n = refl
not_bit Zero n = absurd (n false refl)
not_bit One n = absurd (n true refl)

pub extension_sure : (plane : Bool) (rows : List Row) (trits : List Trit) → (rows ≡ [] → plane ≡ true) → is_tautology rows trits ≡ true → exact (value_of_rows plane rows) trits ≡ bit plane
extension_sure plane rows trits n h =
    exact_from (value_of_rows plane rows) trits plane
    (λ bs c. value_in_plane plane rows bs n ∙ ap (in_plane plane) (passes_above (some_row_matches rows) trits h bs c) ∙ in_plane-true plane)

pub extension_never : (plane : Bool) (rows : List Row) (trits : List Trit) → (rows ≡ [] → plane ≡ true) → some_row_may_match rows trits ≡ false → exact (value_of_rows plane rows) trits ≡ bit (not plane)
extension_never plane rows trits n h =
    exact_from (value_of_rows plane rows) trits (not plane)
    (λ bs c. value_in_plane plane rows bs n ∙ ap (in_plane plane) (none_matches rows trits bs c h) ∙ in_plane-false plane)

pub extension_open : (plane : Bool) (rows : List Row) (trits : List Trit) → (rows ≡ [] → plane ≡ true) → some_row_may_match rows trits ≡ true → is_tautology rows trits ≡ false → exact (value_of_rows plane rows) trits ≡ X
extension_open plane rows trits n m h =
    let some = some_match rows trits m in
    not_bit (exact (value_of_rows plane rows) trits)
    (λ b e.
    let says : (bs : List Bool) → Completes trits bs → in_plane plane (some_row_matches rows bs) ≡ b = λ bs c. sym (value_in_plane plane rows bs n) ∙ exact_says (value_of_rows plane rows) trits b e bs c in
    let each = passes_listed (some_row_matches rows) trits
    (λ bs c. in_plane-one_one plane (some_row_matches rows bs) (some_row_matches rows some.0) (says bs c ∙ sym (says some.0 some.1)) ∙ some.2) in
    true≢false (sym each ∙ h))
