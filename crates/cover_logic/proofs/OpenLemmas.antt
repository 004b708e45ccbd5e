-- What is left of rows over the pins that are unknown.
use Rattle.std.proofs.Common.{◌≡◌, Bool, true, false, ◌&&◌, ◌||◌, cond, List, [], ◌∷◌, map, refl, ap, sym, ◌∙◌, subst, suc, arith}
use Rattle.std.specs.List.{list_any, filter}
use Rattle.cyc_base.specs.declared.trit.Trit.{Trit}
use Rattle.cyc_base.specs.declared.trit.Trit.TheVariants.{Zero, One, X}
use Rattle.cyc_base.specs.Values.{bit, Below, Completes}
use Rattle.cyc_base.proofs.TruthLemmas.{same_truth, and_assoc}
use Rattle.cover_logic.specs.declared.row.Lit.{Lit}
use Rattle.cover_logic.specs.declared.row.Lit.TheVariants as lit
use Rattle.cover_logic.specs.declared.row.Row.{Row}
use Rattle.cover_logic.specs.Covers.{allows, matches, some_row_matches}
use Rattle.cover_logic.specs.Partial.{may_allow, may_match, is_tautology, unknown_count, open_pins, open_lits, open_rows}
use Rattle.cover_logic.proofs.ExtensionLemmas.{passes_above, passes_listed}

-- ---- the unknown pins of a completion, and the completion of those

open_bits : List Trit → List Bool → List Bool
open_bits [] bs = []
open_bits (t ∷ trits) [] = []
open_bits (X ∷ trits) (b ∷ bs) = b ∷ open_bits trits bs
open_bits (Zero ∷ trits) (b ∷ bs) = open_bits trits bs
open_bits (One ∷ trits) (b ∷ bs) = open_bits trits bs

filled : List Trit → List Bool → List Bool
filled [] cs = []
filled (Zero ∷ trits) cs = false ∷ filled trits cs
filled (One ∷ trits) cs = true ∷ filled trits cs
filled (X ∷ trits) [] = false ∷ filled trits []
filled (X ∷ trits) (c ∷ cs) = c ∷ filled trits cs

filled-completes : (trits : List Trit) (cs : List Bool) → Completes trits (filled trits cs)
unfolding filled
filled-completes [] cs = tt
filled-completes (Zero ∷ trits) cs = (refl, filled-completes trits cs)
filled-completes (One ∷ trits) cs = (refl, filled-completes trits cs)
filled-completes (X ∷ trits) [] = (tt, filled-completes trits [])
filled-completes (X ∷ trits) (c ∷ cs) = (tt, filled-completes trits cs)

filled-open : (trits : List Trit) (cs : List Bool) → Completes (open_pins trits) cs → open_bits trits (filled trits cs) ≡ cs
unfolding filled open_bits
filled-open [] [] c = refl
filled-open [] (b ∷ cs) c = absurd c
filled-open (Zero ∷ trits) cs c = filled-open trits cs c
filled-open (One ∷ trits) cs c = filled-open trits cs c
filled-open (X ∷ trits) [] c = absurd c
filled-open (X ∷ trits) (b ∷ cs) c = ap (λ r. b ∷ r) (filled-open trits cs c.1)

open-completes : (trits : List Trit) (bs : List Bool) → Completes trits bs → Completes (open_pins trits) (open_bits trits bs)
unfolding open_bits
open-completes [] bs c = tt
open-completes (Zero ∷ trits) [] c = absurd c
open-completes (One ∷ trits) [] c = absurd c
open-completes (X ∷ trits) [] c = absurd c
open-completes (Zero ∷ trits) (b ∷ bs) c = open-completes trits bs c.1
open-completes (One ∷ trits) (b ∷ bs) c = open-completes trits bs c.1
open-completes (X ∷ trits) (b ∷ bs) c = (tt, open-completes trits bs c.1)

-- ---- a row matches where it may, and what it asks of the unknown pins matches

and_swap : (a b c : Bool) → (a && (b && c)) ≡ (b && (a && c))
and_swap a b c = grind arith

known_zero : (l : Lit) (b : Bool) → Below Zero (bit b) → allows l b ≡ may_allow l Zero
known_zero l b c = grind arith

known_one : (l : Lit) (b : Bool) → Below One (bit b) → allows l b ≡ may_allow l One
known_one l b c = grind arith

may_allow-X : (l : Lit) → may_allow l X ≡ true
may_allow-X l = grind arith

matches-open : (lits : List Lit) (trits : List Trit) (bs : List Bool) → Completes trits bs → matches lits bs ≡ (may_match lits trits && matches (open_lits lits trits) (open_bits trits bs))
unfolding open_bits
matches-open [] trits bs c = refl
matches-open (l ∷ lits) [] [] c = refl
matches-open (l ∷ lits) [] (b ∷ bs) c = absurd c
matches-open (l ∷ lits) (Zero ∷ trits) [] c = absurd c
matches-open (l ∷ lits) (One ∷ trits) [] c = absurd c
matches-open (l ∷ lits) (X ∷ trits) [] c = absurd c
matches-open (l ∷ lits) (Zero ∷ trits) (b ∷ bs) c = grind (arith, known_zero, matches-open lits trits bs c.1, and_assoc)
matches-open (l ∷ lits) (One ∷ trits) (b ∷ bs) c = grind (arith, known_one, matches-open lits trits bs c.1, and_assoc)
matches-open (l ∷ lits) (X ∷ trits) (b ∷ bs) c = grind (arith, matches-open lits trits bs c.1, and_swap, may_allow-X)

any_kept : {A B : Type 0} (g : B → Bool) (h : A → B) (x : A) (xs : List A) (kept : Bool) → list_any g (map h (cond kept (x ∷ xs) xs)) ≡ ((kept && g (h x)) || list_any g (map h xs))
any_kept g h x xs kept = grind arith

any_filtered : {A B : Type 0} (f m : A → Bool) (g : B → Bool) (h : A → B) → ((x : A) → f x ≡ (m x && g (h x))) → (xs : List A) → list_any f xs ≡ list_any g (map h (filter m xs))
any_filtered f m g h e [] = refl
any_filtered f m g h e (x ∷ xs) = grind (arith, any_filtered f m g h e xs, any_kept)

some-open : (rows : List Row) (trits : List Trit) (bs : List Bool) → Completes trits bs → some_row_matches rows bs ≡ some_row_matches (open_rows rows trits) (open_bits trits bs)
some-open rows trits bs c = grind (arith, any_filtered, matches-open)

-- so they are a tautology where all rows are one
pub same_open : (rows : List Row) (trits : List Trit) → is_tautology (open_rows rows trits) (open_pins trits) ≡ is_tautology rows trits
same_open rows trits =
    same_truth (is_tautology (open_rows rows trits) (open_pins trits)) (is_tautology rows trits)
    (λ e.
    passes_listed (some_row_matches rows) trits
    (λ bs c. some-open rows trits bs c ∙ passes_above (some_row_matches (open_rows rows trits)) (open_pins trits) e (open_bits trits bs) (open-completes trits bs c)))
    (λ e.
    passes_listed (some_row_matches (open_rows rows trits)) (open_pins trits)
    (λ cs c.
    subst (λ bits. some_row_matches (open_rows rows trits) bits ≡ true) (filled-open trits cs c)
    (sym (some-open rows trits (filled trits cs) (filled-completes trits cs)) ∙ passes_above (some_row_matches rows) trits e (filled trits cs) (filled-completes trits cs))))

pub same_unknown_count : (trits : List Trit) → unknown_count (open_pins trits) ≡ unknown_count trits
same_unknown_count [] = refl
same_unknown_count (Zero ∷ trits) = same_unknown_count trits
same_unknown_count (One ∷ trits) = same_unknown_count trits
same_unknown_count (X ∷ trits) = ap suc (same_unknown_count trits)
