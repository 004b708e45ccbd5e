-- The blocks of a netlist, one after another.
use Rattle.std.proofs.Common.{◌≡◌, ℕ, ◌+◌, ◌<◌, ◌≤◌, eqb, true, List, [], ◌∷◌, ◌++◌, length, get_or, subst, arith, Contains}
use Rattle.isolation.proofs.Common.{cases_lt, get_or_append_left, Contains-get_or, IsNetlist, block_at, gate_home}
use Rattle.std.proofs.lemmas.List.{get_or_push}
use Rattle.std.proofs.lemmas.Map.Steps.{le-length_from_below}
use Rattle.std.proofs.lemmas.Map.Views.{list_any-from_Contains}
use Rattle.std.specs.Cmp.{nat_eq_equiv}
use Rattle.std.specs.List.{list_any}
use Rattle.loops.specs.Looped.{Looped, IsLooped}

-- each has a gate, whose home it is
pub few_blocks : (l : Looped) → IsLooped l → IsNetlist l.net → length l.blocks.list ≤ 4294967295
few_blocks l is valid = omega (arith, le-length_from_below l.blocks.home (length l.blocks.list) is-home, is.blocks.homes, valid.fits)
  where
    is-home : (b : ℕ) → b < length l.blocks.list → list_any (eqb b) l.blocks.home ≡ true
    is-home b less =
        let gates : List ℕ = (block_at l.blocks b).gates in
        let at = gate_home l.net l.blocks is.blocks b (get_or gates 0 0) less (Contains-get_or gates 0 0 (is.blocks.filled b less)) in
        list_any-from_Contains nat_eq_equiv b l.blocks.home (subst (Contains l.blocks.home) at.1 (Contains-get_or l.blocks.home (get_or gates 0 0) 0 (omega (arith, at.0, is.blocks.homes))))

-- one element more
pub each-more : {A : Type 0} (P : ℕ → A → Type 0) (d x : A) (n : ℕ) (xs : List A) → length xs ≡ n → ((k : ℕ) → k < n → P k (get_or xs k d)) → P n x →
    (k : ℕ) → k < n + 1 → P k (get_or (xs ++ x ∷ []) k d)
each-more P d x n xs wide before here k less = grind (arith, cases_lt k n, get_or_append_left xs (x ∷ []) d k, get_or_push xs x d k)
