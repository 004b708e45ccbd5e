-- The names of copies and of the constant are new, differ among each other, and may stand in a BLIF text.
use Rattle.std.proofs.Common.{◌≡◌, ℕ, suc, ◌^◌, ◌<◌, ◌≤◌, false, List, [], ◌∷◌, ◌++◌, subst, arith}
use Rattle.std.proofs.lemmas.Fmt.{decimal_injective}
use Rattle.unroll.proofs.Common.{append-nil, All-append, All-from_recursion, AllByRecursion, list_any, IsDistinct, all_weaker, all_append, longest_run, longest_run_of, copy_name, zero_name, bytes_eq, IsBlifName}
use Rattle.std.proofs.lemmas.List.Elements.{All-cons}
use Rattle.std.proofs.lemmas.List.Folds.{list_any_none}
use Rattle.std.specs.Fmt.{decimal}
use Rattle.cyc_base.specs.Tildes.{tildes}
use Rattle.cyc_base.specs.Names.{IsBlifByte}
use Rattle.cyc_base.proofs.NameLemmas.{bytes_eq-other}
use Rattle.cyc_base.proofs.MarkLemmas.{run_longest, without_tildes}
use Rattle.cyc_base.proofs.DigitLemmas.{split_at_tilde, decimal_no_tilde}
use Rattle.cyc_base.proofs.BlifLemmas.{tildes_fit, decimal_fits}

-- runs of `~`
pub copy_is_long : (n k : ℕ) (name : List ℕ) → n ≤ longest_run (copy_name (tildes n) k name)
copy_is_long n k name = run_longest (99 ∷ decimal k) name n

pub zero_is_long : (n : ℕ) → n ≤ longest_run (zero_name (tildes n))
zero_is_long n = subst (λ (run : List ℕ). n ≤ longest_run (122 ∷ run)) (append-nil (tildes n)) (run_longest (122 ∷ []) [] n)

-- each of these names has at most their longest run
pub all_short : (names : List (List ℕ)) (most : ℕ) → longest_run_of names ≤ most → AllByRecursion (λ name. longest_run name ≤ most) names
all_short [] most l = tt
all_short (name ∷ names) most l = (omega arith, all_short names most (omega arith))

-- the number and the name are read back from a copy's name
pub copy_names_tell : (n j k : ℕ) (v w : List ℕ) → j < 2 ^ 64 → k < 2 ^ 64 → copy_name (tildes (suc n)) j v ≡ copy_name (tildes (suc n)) k w → (j ≡ k) × (v ≡ w)
copy_names_tell n j k v w hj hk e = grind (arith, split_at_tilde, decimal_no_tilde, decimal_injective, without_tildes)

pub zero_is_no_copy : (n k : ℕ) (name : List ℕ) → bytes_eq (zero_name (tildes n)) (copy_name (tildes n) k name) ≡ false
zero_is_no_copy n k name = grind arith

-- BLIF names
pub zero_name_fits : (n : ℕ) → IsBlifName (zero_name (tildes n))
zero_name_fits n = (λ e. cc, All-cons IsBlifByte 122 (tildes n) (omega arith, omega arith, λ e. absurd (omega arith)) (tildes_fit n))

pub copy_name_fits : (n k : ℕ) (name : List ℕ) → k < 2 ^ 64 → IsBlifName name → IsBlifName (copy_name (tildes n) k name)
copy_name_fits n k name h is =
    grind (arith, All-cons IsBlifByte 99 (decimal k ++ (tildes n ++ name)), All-append IsBlifByte (decimal k) (tildes n ++ name) (decimal_fits k h) (All-append IsBlifByte (tildes n) name (tildes_fit n) is.1), decimal_fits k h, All-append IsBlifByte (tildes n) name (tildes_fit n) is.1, tildes_fit n)

-- lists whose names differ
abbrev pub Apart : List (List ℕ) → List (List ℕ) → Type 0
Apart xs ys = AllByRecursion (λ x. AllByRecursion (λ y. bytes_eq x y ≡ false) ys) xs

pub distinct_append : (xs ys : List (List ℕ)) → IsDistinct bytes_eq xs → IsDistinct bytes_eq ys → Apart xs ys → IsDistinct bytes_eq (xs ++ ys)
unfolding IsDistinct
distinct_append [] ys h k far = k
distinct_append (x ∷ xs) ys h k far = grind (arith, all_append, distinct_append xs ys h.1 k far.1)

pub all_of_first : (P : List ℕ → Type 0) (xs ys : List (List ℕ)) → AllByRecursion P (xs ++ ys) → AllByRecursion P xs
all_of_first P [] ys h = tt
all_of_first P (x ∷ xs) ys h = (h.0, all_of_first P xs ys h.1)

pub all_of_second : (P : List ℕ → Type 0) (xs ys : List (List ℕ)) → AllByRecursion P (xs ++ ys) → AllByRecursion P ys
all_of_second P [] ys h = h
all_of_second P (x ∷ xs) ys h = all_of_second P xs ys h.1

-- the same where new items are put between two parts
pub all_between : (P : List ℕ → Type 0) (xs new ys : List (List ℕ)) → AllByRecursion P (xs ++ ys) → AllByRecursion P new → AllByRecursion P (xs ++ (new ++ ys))
all_between P [] new ys h k = all_append P new ys k h
all_between P (x ∷ xs) new ys h k = (h.0, all_between P xs new ys h.1 k)

pub distinct_between : (xs new ys : List (List ℕ)) → IsDistinct bytes_eq (xs ++ ys) → IsDistinct bytes_eq new → Apart xs new → Apart new ys → IsDistinct bytes_eq (xs ++ (new ++ ys))
unfolding IsDistinct
distinct_between [] new ys h k far near = distinct_append new ys k h near
distinct_between (x ∷ xs) new ys h k far near = grind (arith, all_between, distinct_between xs new ys h.1 k far.1 near)

-- names that two tests tell are apart
apart_by : (P Q : List ℕ → Type 0) → ((x y : List ℕ) → P x → Q y → x ≡ y → ⊥) → (xs ys : List (List ℕ)) → AllByRecursion P xs → AllByRecursion Q ys → Apart xs ys
apart_by P Q tell xs ys h k =
    all_weaker P (λ x. AllByRecursion (λ y. bytes_eq x y ≡ false) ys) xs
    (λ x p. all_weaker Q (λ y. bytes_eq x y ≡ false) ys (λ y q. bytes_eq-other x y (tell x y p q)) k) h

-- so short names are apart from long ones
pub short_from_long : (most : ℕ) (xs ys : List (List ℕ)) → AllByRecursion (λ x. longest_run x ≤ most) xs → AllByRecursion (λ y. most < longest_run y) ys → Apart xs ys
short_from_long most = grind (arith, apart_by)

pub long_from_short : (most : ℕ) (xs ys : List (List ℕ)) → AllByRecursion (λ x. most < longest_run x) xs → AllByRecursion (λ y. longest_run y ≤ most) ys → Apart xs ys
long_from_short most = grind (arith, apart_by)

-- and a short name is none of these
pub short_is_none : (most : ℕ) (name : List ℕ) (ys : List (List ℕ)) → longest_run name ≤ most → AllByRecursion (λ y. most < longest_run y) ys → list_any (bytes_eq name) ys ≡ false
short_is_none most name ys l h = grind (arith, list_any_none (bytes_eq name) ys, All-from_recursion, short_from_long most (name ∷ []) ys)
