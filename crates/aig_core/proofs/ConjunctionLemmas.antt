-- The conjunction of two edges is a sound graph's edge, with the value of the conjunction.
use Rattle.std.proofs.Common.{◌≡◌, ◌≢◌, ◌⊎◌, inl, inr, ℕ, zero, suc, ◌+◌, ◌<◌, ◌≤◌, ◌&&◌, Bool, true, false, not, List, [], ◌∷◌, ◌++◌, length, slice_get, Option, Some, None, MatchOption, refl, sym, ap, ap₂, subst, ◌∙◌, arith, true≢false}
use Rattle.aig_core.proofs.Common.{list_any, position_or_len, cases_Bool, eq-eqb, append-nil, length_push, slice_get_within, get_or_from_slice_get, Edge, And, Graph, with_ands, first_and, edge, complement, IsEdge, den, IsSound, IsVector, Extends, Made, simple_and, pair_of, same_pair, entered, hashed, conjunction, found}
use Rattle.std.specs.Option.{option_map_or}
use Rattle.std.proofs.lemmas.Bool.{cases_lt, eqb-true, eqb-false, false_from_ne_true}
use Rattle.std.proofs.lemmas.Option.{slice_get-get_or, same_Some}
use Rattle.std.proofs.lemmas.List.Sums.{fails_before_first, passes_at_first, position_or_len_is}
use Rattle.std.proofs.lemmas.List.Folds.{list_any_at, list_any_none}
use Rattle.cyc_base.proofs.TruthLemmas.{and_with_true}
use Rattle.aig_core.specs.Graphs.{variables}
use Rattle.aig_core.specs.Soundness.{IsSoundAnd}
use Rattle.aig_core.proofs.GraphLemmas.{den-complement, den-constant, den-and, extended}

pub same_edge : (a b : Edge) → a.0 ≡ b.0 → a ≡ b
same_edge a b e = λ j. record { 0 = e j }

pub same_and : (x y : And) → same_pair x y ≡ true → x ≡ y
same_and x y h = grind arith

-- what is known where no simple case applies
pub record AreApart (a b : Edge) : Type 0 where
  pub a_zero : a.0 ≢ 0
  pub b_zero : b.0 ≢ 0
  pub complements : a.0 ≢ (complement b).0
  pub a_one : a.0 ≢ 1
  pub b_one : b.0 ≢ 1
  pub equal : a.0 ≢ b.0

-- the answer of a simple case
pub record IsSimple (a b e : Edge) : Type 0 where
  pub edge_of : (g : Graph) → IsEdge g a → IsEdge g b → IsEdge g e
  pub value : (g : Graph) (v : List Bool) → den g e v ≡ (den g a v && den g b v)

and_false : (b : Bool) → false ≡ (b && false)
and_false b = grind arith

and_opposite : (b : Bool) → false ≡ (not b && b)
and_opposite b = grind arith

den-zero : (g : Graph) (e : Edge) (v : List Bool) → e.0 ≡ 0 → den g e v ≡ false
den-zero g e v h = ap (λ x. den g x v) (same_edge e (edge 0) h) ∙ den-constant g v

den-one : (g : Graph) (e : Edge) (v : List Bool) → e.0 ≡ 1 → den g e v ≡ true
den-one g e v h = ap (λ x. den g x v) (same_edge e (complement (edge 0)) h) ∙ den-complement g (edge 0) v ∙ ap not (den-constant g v)

zero_is_edge : (g : Graph) → IsEdge g (edge 0)
zero_is_edge g = omega arith

module _ (a b : Edge) where
  none : ((g : Graph) (v : List Bool) → (den g a v && den g b v) ≡ false) → IsSimple a b (edge 0)
  none never = record { edge_of = λ g _ _. zero_is_edge g; value = λ g v. den-constant g v ∙ sym (never g v) }

  zero_left : a.0 ≡ 0 → IsSimple a b (edge 0)
  zero_left h = none (λ g v. ap (λ x. x && den g b v) (den-zero g a v h))

  zero_right : b.0 ≡ 0 → IsSimple a b (edge 0)
  zero_right h = none (λ g v. ap (λ x. den g a v && x) (den-zero g b v h) ∙ sym (and_false (den g a v)))

  opposites : a.0 ≡ (complement b).0 → IsSimple a b (edge 0)
  opposites h = none (λ g v. ap (λ x. den g x v && den g b v) (same_edge a (complement b) h) ∙ ap (λ x. x && den g b v) (den-complement g b v) ∙ sym (and_opposite (den g b v)))

  one_left : a.0 ≡ 1 → IsSimple a b b
  one_left h = record { edge_of = λ g _ k. k; value = λ g v. ap (λ x. x && den g b v) (sym (den-one g a v h)) }

  one_right : b.0 ≡ 1 → IsSimple a b a
  one_right h = grind (arith, and_with_true, den-one)

  equals : a.0 ≡ b.0 → IsSimple a b a
  equals h = grind arith

  pub simple_cases : MatchOption (simple_and a b) (AreApart a b) (IsSimple a b)
  simple_cases =
      grind (arith, zero_left, eqb-true a.0 0, zero_right, eqb-true b.0 0, opposites, eqb-true a.0 (complement b).0, one_left, eqb-true a.0 1, one_right, eqb-true b.0 1, equals, eqb-true a.0 b.0, eqb-false a.0 0, eqb-false b.0 0, eqb-false a.0 (complement b).0, eqb-false a.0 1, eqb-false b.0 1, eqb-false a.0 b.0)

-- ---- an AND that is made or found

-- the pair of edges that are apart
pub record IsPair (g : Graph) (a b : Edge) (x : And) : Type 0 where
  pub sound : IsSoundAnd (variables g) x
  pub value : (v : List Bool) → (den g x.greater v && den g x.smaller v) ≡ (den g a v && den g b v)

pub pair_is : (g : Graph) (a b : Edge) → IsEdge g a → IsEdge g b → AreApart a b → IsPair g a b (pair_of a b)
pair_is g a b in_a in_b apart = grind arith

-- where no AND passes a test, the first place that does is past the end
none_passes : (ands : List And) (x : And) → list_any (same_pair x) ands ≡ false → position_or_len (same_pair x) ands ≡ length ands
none_passes ands x none =
    position_or_len_is (same_pair x) ands (length ands) x (omega arith)
    (λ k l. false_from_ne_true _ (λ t. true≢false (sym (list_any_at (same_pair x) ands k x l t) ∙ none)))
    (λ l. absurd (omega (arith, l)))

pub Extends-refl : (g : Graph) → Extends g g
Extends-refl g = subst (λ ands. Extends g (with_ands g ands)) (append-nil g.ands) (extended g [])

-- what is known of the ANDs after one was entered, at its place
pub record IsEntered (g : Graph) (x : And) : Type 0 where
  pub sound : IsSound (hashed g x).graph
  pub extends : Extends g (hashed g x).graph
  pub place : slice_get (entered g.ands x) (position_or_len (same_pair x) g.ands) ≡ Some x
  pub within : position_or_len (same_pair x) g.ands < length (entered g.ands x)
  pub earlier : position_or_len (same_pair x) g.ands ≤ length g.ands
  pub grows : length g.ands ≤ length (entered g.ands x)

pub any_place : {T : Type 0} (p : T → Bool) (xs : List T) → list_any p xs ≡ true → position_or_len p xs < length xs
any_place p xs h = grind (arith, cases_lt (position_or_len p xs) (length xs), true≢false, list_any_none p xs, fails_before_first p xs)

-- an AND of a longer list is there already or is the last
read_push : (xs : List And) (x y : And) (p : ℕ) → slice_get (xs ++ x ∷ []) p ≡ Some y → (slice_get xs p ≡ Some y) ⊎ ((p ≡ length xs) × (y ≡ x))
read_push [] x y (suc p) at = absurd (cc)
read_push [] x y zero at = inr (refl, sym (same_Some x y at))
read_push (z ∷ xs) x y zero at = inl at
read_push (z ∷ xs) x y (suc p) at = elim (read_push xs x y p at) [ inl there ↦ inl there | inr last ↦ inr (ap suc last.0, last.1) ]

slice_get-last : (xs : List And) (x : And) → slice_get (xs ++ x ∷ []) (length xs) ≡ Some x
slice_get-last [] x = refl
slice_get-last (y ∷ xs) x = slice_get-last xs x

-- the AND itself isn't among those that none of passes
absent : (ands : List And) (x : And) (p : ℕ) → list_any (same_pair x) ands ≡ false → slice_get ands p ≡ Some x → ⊥
absent ands x p none at = grind (arith, slice_get_within ands p x, get_or_from_slice_get ands p x x, eq-eqb x.greater.0 x.greater.0, eq-eqb x.smaller.0 x.smaller.0, true≢false, list_any_at (same_pair x) ands p x)

pushed_sound : (g : Graph) (x : And) → IsSound g → IsSoundAnd (variables g) x → list_any (same_pair x) g.ands ≡ false → IsSound (with_ands g (g.ands ++ x ∷ []))
pushed_sound g x sound here none = record {
  each = λ i y at. elim (read_push g.ands x y i at) [
    | inl a ↦ sound.each i y a
    | inr l ↦ subst (λ (z : And). IsSoundAnd (first_and g + i) z) (sym l.1) (subst (λ k. IsSoundAnd (first_and g + k) x) (sym l.0) here)
  ];
  once = λ i j y at_i at_j. elim (read_push g.ands x y i at_i) [
    | inl a ↦ elim (read_push g.ands x y j at_j) [
      | inl b ↦ sound.once i j y a b
      | inr l ↦ absurd (absent g.ands x i none (a ∙ ap Some l.1))
    ]
    | inr k ↦ elim (read_push g.ands x y j at_j) [
      | inl b ↦ absurd (absent g.ands x j none (b ∙ ap Some k.1))
      | inr l ↦ k.0 ∙ sym l.0
    ]
  ];
}

pub entered_is : (g : Graph) (x : And) → IsSound g → IsSoundAnd (variables g) x → IsEntered g x
entered_is g x sound here =
    grind (arith, cases_Bool (list_any (same_pair x) g.ands), any_place (same_pair x) g.ands, slice_get-get_or g.ands, same_and x, passes_at_first (same_pair x) g.ands x, Extends-refl g, none_passes g.ands x, length_push g.ands x, pushed_sound g x sound here, extended g (x ∷ []), slice_get-last g.ands x)

-- ---- what is made

pub record IsMade (old : Graph) (made : Made) (value : List Bool → Bool) : Type 0 where
  pub sound : IsSound made.graph
  pub extends : Extends old made.graph
  pub is_edge : IsEdge made.graph made.edge
  pub grows : length old.ands ≤ length made.graph.ands
  pub value_is : (v : List Bool) → IsVector old v → den made.graph made.edge v ≡ value v

-- the value in other words
pub made_alike : {g : Graph} {made : Made} {f : List Bool → Bool} (h : List Bool → Bool) → IsMade g made f → ((v : List Bool) → IsVector g v → f v ≡ h v) → IsMade g made h
made_alike h is same = record { sound = is.sound; extends = is.extends; is_edge = is.is_edge; grows = is.grows; value_is = λ v k. is.value_is v k ∙ same v k }

pub found_is : (g : Graph) (e : Edge) → IsSound g → IsEdge g e → IsMade g (found g e) (λ v. den g e v)
found_is g e sound is_edge = grind (arith, Extends-refl g)

pub hashed_is : (g : Graph) (a b : Edge) → IsSound g → IsEdge g a → IsEdge g b → AreApart a b → IsMade g (hashed g (pair_of a b)) (λ v. den g a v && den g b v)
hashed_is g a b sound in_a in_b apart =
    let pair = pair_is g a b in_a in_b apart in
    let x = pair_of a b in
    let is = entered_is g x sound pair.sound in
    let p = position_or_len (same_pair x) g.ands in
    record {
      sound = is.sound;
      extends = is.extends;
      is_edge = omega (arith, is.within);
      grows = is.grows;
      value_is = λ v h.
          den-and (hashed g x).graph p x v is.place (is.sound.each p x is.place) h
          ∙ ap₂ (λ s t. s && t) (is.extends.keeps x.greater v pair.sound.earlier h) (is.extends.keeps x.smaller v (omega (arith, pair.sound.earlier, pair.sound.greater)) h)
          ∙ pair.value v;
    }

pub conjunction_is : (g : Graph) (a b : Edge) → IsSound g → IsEdge g a → IsEdge g b → IsMade g (conjunction g a b) (λ v. den g a v && den g b v)
unfolding conjunction
conjunction_is g a b sound in_a in_b = by (simple_and a b) (simple_cases a b)
  where
    by : (o : Option Edge) → MatchOption o (AreApart a b) (IsSimple a b) → IsMade g (option_map_or (found g) o (hashed g (pair_of a b))) (λ v. den g a v && den g b v)
    by None apart = hashed_is g a b sound in_a in_b apart
    by (Some e) simple = made_alike (λ v. den g a v && den g b v) (found_is g e sound (simple.edge_of g in_a in_b)) (λ v h. simple.value g v)

pub conjunction-some : (g : Graph) (a b e : Edge) → simple_and a b ≡ Some e → conjunction g a b ≡ found g e
unfolding conjunction
conjunction-some g a b e h = rw h refl

pub conjunction-none : (g : Graph) (a b : Edge) → simple_and a b ≡ None → conjunction g a b ≡ hashed g (pair_of a b)
unfolding conjunction
conjunction-none g a b h = rw h refl

pub apart_at : (a b : Edge) → simple_and a b ≡ None → AreApart a b
apart_at a b h = rw h at (simple_cases a b)

pub simple_at : (a b e : Edge) → simple_and a b ≡ Some e → IsSimple a b e
simple_at a b e h = rw h at (simple_cases a b)
