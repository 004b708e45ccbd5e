-- The lesser of two vectors, and what it is the first to pass.
use Rattle.std.proofs.Common.{◌≡◌, inl, inr, ℕ, Bool, true, false, ◌||◌, List, [], ◌∷◌, length, Some, None, ap, ◌∙◌, arith}
use Rattle.equal.proofs.Common.{find, vectors, find-alike}
use Rattle.std.specs.Cmp.Lexicographic.{slice_cmp}
use Rattle.std.specs.Ordering.{bool_cmp, is_lt}
use Rattle.std.proofs.lemmas.Bool.{or_cases, or_left}
use Rattle.bdd_ops.specs.Least.{IsLeast}
use Rattle.cyc_base.specs.Vectors.{AtMost}
use Rattle.cyc_base.proofs.TruthLemmas.{or_without_second, or_comm}
use Rattle.refusals.proofs.FirstLemmas.{found_passes, found_wide, found_least, none_passes}
use Rattle.diagram_decision.proofs.SetLemmas.{least-first}

-- ---- the order

-- a lesser vector is at most the other
pub below-from_cmp : (v w : List Bool) → is_lt (slice_cmp bool_cmp v w) ≡ true → AtMost v w
below-from_cmp [] w is = tt
below-from_cmp (x ∷ v) [] is = absurd cc
below-from_cmp (false ∷ v) (false ∷ w) is = below-from_cmp v w is
below-from_cmp (false ∷ v) (true ∷ w) is = tt
below-from_cmp (true ∷ v) (false ∷ w) is = absurd cc
below-from_cmp (true ∷ v) (true ∷ w) is = below-from_cmp v w is

-- and the other is at most one that isn't
pub above-from_cmp : (v w : List Bool) → is_lt (slice_cmp bool_cmp v w) ≡ false → AtMost w v
above-from_cmp [] [] is = tt
above-from_cmp [] (y ∷ w) is = absurd cc
above-from_cmp (x ∷ v) [] is = tt
above-from_cmp (false ∷ v) (false ∷ w) is = above-from_cmp v w is
above-from_cmp (false ∷ v) (true ∷ w) is = absurd cc
above-from_cmp (true ∷ v) (false ∷ w) is = tt
above-from_cmp (true ∷ v) (true ∷ w) is = above-from_cmp v w is

at_most-trans : (u v w : List Bool) → AtMost u v → AtMost v w → AtMost u w
at_most-trans [] v w first second = tt
at_most-trans (x ∷ u) [] w first second = absurd first
at_most-trans (x ∷ u) (y ∷ v) [] first second = absurd second
at_most-trans (false ∷ u) (false ∷ v) (false ∷ w) first second = at_most-trans u v w first second
at_most-trans (false ∷ u) (false ∷ v) (true ∷ w) first second = tt
at_most-trans (false ∷ u) (true ∷ v) (false ∷ w) first second = absurd second
at_most-trans (false ∷ u) (true ∷ v) (true ∷ w) first second = tt
at_most-trans (true ∷ u) (false ∷ v) w first second = absurd first
at_most-trans (true ∷ u) (true ∷ v) (false ∷ w) first second = absurd second
at_most-trans (true ∷ u) (true ∷ v) (true ∷ w) first second = at_most-trans u v w first second

-- ---- the first to pass one of two tests

pub lesser-first : (n : ℕ) (p q : List Bool → Bool) (v w : List Bool) → find p (vectors n) ≡ Some v → find q (vectors n) ≡ Some w → AtMost v w → find (λ u. p u || q u) (vectors n) ≡ Some v
lesser-first n p q v w first second most =
    let wide : length v ≡ n = found_wide n p v first in
    let least : IsLeast (λ u. p u || q u) v = record {
      true_there = or_left (p v) (q v) (found_passes p (vectors n) v first);
      before_all = λ u long passes. elim (or_cases (p u) (q u) passes) [
        | inl here ↦ found_least n p v u first (long ∙ wide) here
        | inr there ↦ at_most-trans v w u most (found_least n q w u second (long ∙ wide) there)
      ];
    } in
    least-first n (λ u. p u || q u) v wide least

pub lesser-second : (n : ℕ) (p q : List Bool → Bool) (v w : List Bool) → find p (vectors n) ≡ Some v → find q (vectors n) ≡ Some w → AtMost w v → find (λ u. p u || q u) (vectors n) ≡ Some w
lesser-second n p q v w first second most = grind (arith, find-alike n, or_comm, lesser-first n q p w v second first most)

-- or the only one
pub only-first : (n : ℕ) (p q : List Bool → Bool) → find q (vectors n) ≡ None → find (λ u. p u || q u) (vectors n) ≡ find p (vectors n)
only-first n p q none = find-alike n (λ u. p u || q u) p (λ u wide. or_without_second (p u) (q u) (none_passes n q u none wide))

pub only-second : (n : ℕ) (p q : List Bool → Bool) → find p (vectors n) ≡ None → find (λ u. p u || q u) (vectors n) ≡ find q (vectors n)
only-second n p q none = find-alike n (λ u. p u || q u) q (λ u wide. ap (λ x. x || q u) (none_passes n p u none wide))
