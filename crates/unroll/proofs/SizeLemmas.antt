-- Numbers of copies, gate by gate.
use Rattle.std.proofs.Common.{◌≡◌, ℕ, ◌+◌, ◌<◌, max, Bool, true, [], ◌∷◌, ◌++◌, refl, ap, ◌∙◌, arith, add-one}
use Rattle.unroll.proofs.Common.{get_or-range_with_len, length-range_with_len, range_with_len, list_any, sum_by, copies_of, most}
use Rattle.std.proofs.lemmas.List.Folds.{list_any_at}
use Rattle.std.proofs.lemmas.List.Sums.{sum_by_push}
use Rattle.cyc_base.proofs.ListLemmas.{range-suc}

pub range_next : (n : ℕ) → range_with_len 0 (n + 1) ≡ range_with_len 0 n ++ n ∷ []
range_next n = rw add-one (range-suc 0 n ∙ ap (λ (x : ℕ). range_with_len 0 n ++ x ∷ []) (let e : 0 + n ≡ n = omega arith in e))

pub one_in_range : (p : ℕ → Bool) (n k : ℕ) → k < n → p k ≡ true → list_any p (range_with_len 0 n) ≡ true
one_in_range p n k l h = grind (arith, length-range_with_len 0 n, get_or-range_with_len 0 n k 0 l, list_any_at p (range_with_len 0 n) k 0)

pub most_next : (same : ℕ → ℕ → Bool) (m : ℕ → ℕ) (n : ℕ) → most same m (n + 1) ≡ max (most same m n) (copies_of same m n)
most_next same m n = rw add-one refl

pub sum_next : (f : ℕ → ℕ) (n : ℕ) → sum_by f (range_with_len 0 (n + 1)) ≡ sum_by f (range_with_len 0 n) + f n
sum_next f n = ap (sum_by f) (range_next n) ∙ sum_by_push f (range_with_len 0 n) n
