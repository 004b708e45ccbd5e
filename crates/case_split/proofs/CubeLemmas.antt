-- What cubes ask.
use Rattle.std.proofs.Common.{◌≡◌, inl, inr, ℕ, zero, suc, ◌+◌, ◌<◌, Bool, true, false, not, if◌then◌else◌, List, [], ◌∷◌, ◌++◌, length, get_or, All, Contains, refl, sym, ap, ◌∙◌, subst, arith}
use Rattle.std.proofs.lemmas.Bool.{cases_eq, eq-eqb, ne_eqb}
use Rattle.std.proofs.lemmas.List.{get_or-append-add, get_or_append_left, length-append}
use Rattle.std.proofs.lemmas.List.Elements.{All-contains, All-head, All-tail}
use Rattle.cyc_base.specs.declared.trit.Trit.{Trit}
use Rattle.cyc_base.specs.Values.{bit}
use Rattle.cover_logic.specs.Partial.{may_allow, must_allow}
use Rattle.case_split.specs.declared.cases.ColumnValue.{ColumnValue}
use Rattle.case_split.specs.Cubes.{asked_of, literal_of, IsCube}

-- ---- what a cube asks, from a place on

-- ---- a cube that holds asks of no column both values

bit_tells : (a b : Bool) → bit a ≡ bit b → a ≡ b
bit_tells true true e = refl
bit_tells false false e = refl
bit_tells true false e = cc
bit_tells false true e = cc

asked_is : (g : ℕ → Trit) (cube : List ColumnValue) (literal : ColumnValue) → All (λ (l : ColumnValue). g l.column ≡ bit l.value) cube → Contains cube literal → asked_of cube literal.column ≡ literal_of literal.value
asked_is g [] literal h k = (let l = k.1 in absurd (omega arith))
asked_is g (x ∷ cube) literal h (zero, l, e) =
    ap (λ (t : Bool). if t then literal_of x.value else asked_of cube literal.column) (eq-eqb x.column literal.column (ap (λ (y : ColumnValue). y.column) e))
    ∙ ap (λ (y : ColumnValue). literal_of y.value) e
asked_is g (x ∷ cube) literal h (suc k, l, e) =
    elim (cases_eq x.column literal.column) [
      | inl same ↦
          ap (λ (t : Bool). if t then literal_of x.value else asked_of cube literal.column) (eq-eqb x.column literal.column same)
          ∙ ap literal_of (bit_tells x.value literal.value (sym (All-head (λ (l : ColumnValue). g l.column ≡ bit l.value) x cube h) ∙ ap g same ∙ All-contains (λ (l : ColumnValue). g l.column ≡ bit l.value) (x ∷ cube) literal h (suc k, l, e)))
      | inr apart ↦
          ap (λ (t : Bool). if t then literal_of x.value else asked_of cube literal.column) (ne_eqb x.column literal.column apart)
          ∙ asked_is g cube literal (All-tail (λ (l : ColumnValue). g l.column ≡ bit l.value) x cube h) (k, (let m : k < length cube = omega arith in m), e)
    ]

pub cube_from : (g : ℕ → Trit) (cube : List ColumnValue) → All (λ (l : ColumnValue). g l.column ≡ bit l.value) cube → IsCube cube
cube_from g cube h i d l = asked_is g cube (get_or cube i d) h (i, l, same cube i d (get_or cube i d) l)
  where
    same : (xs : List ColumnValue) (j : ℕ) (e f : ColumnValue) → j < length xs → get_or xs j f ≡ get_or xs j e
    same [] j e f l = absurd (omega arith)
    same (x ∷ xs) zero e f l = refl
    same (x ∷ xs) (suc j) e f l = same xs j e f (omega arith)

-- ---- what it asks of columns

must_of : (b : Bool) → must_allow (literal_of b) (bit b) ≡ true
must_of true = refl
must_of false = refl

pub may_not : (b : Bool) → may_allow (literal_of b) (bit (not b)) ≡ false
may_not true = refl
may_not false = refl

pub asked_must : (g : ℕ → Trit) (cube : List ColumnValue) (column : ℕ) → All (λ (l : ColumnValue). g l.column ≡ bit l.value) cube → must_allow (asked_of cube column) (g column) ≡ true
asked_must g [] column h = refl
asked_must g (x ∷ cube) column h = elim (cases_eq x.column column) [
  | inl same ↦
      ap (λ (t : Bool). must_allow (if t then literal_of x.value else asked_of cube column) (g column)) (eq-eqb x.column column same)
      ∙ ap (must_allow (literal_of x.value)) (ap g (sym same) ∙ All-head (λ (l : ColumnValue). g l.column ≡ bit l.value) x cube h)
      ∙ must_of x.value
  | inr apart ↦
      ap (λ (t : Bool). must_allow (if t then literal_of x.value else asked_of cube column) (g column)) (ne_eqb x.column column apart)
      ∙ asked_must g cube column (All-tail (λ (l : ColumnValue). g l.column ≡ bit l.value) x cube h)
]

-- ---- parts of lists

pub all_front : {A : Type 0} (P : A → Type 0) (xs ys : List A) → All P (xs ++ ys) → All P xs
all_front P xs ys h i d l = subst P (get_or_append_left xs ys d i l) (h i d (let e = length-append xs ys in omega arith))

pub all_back : {A : Type 0} (P : A → Type 0) (xs : List A) (y : A) → All P (xs ++ y ∷ []) → P y
all_back P xs y h = subst P (get_or-append-add xs (y ∷ []) 0 y) (h (length xs + 0) y (let e = length-append xs (y ∷ []) in omega arith))
