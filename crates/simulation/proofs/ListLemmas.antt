-- Members of lists, and lists read from a place on.
use Rattle.std.proofs.Common.{◌⊎◌, inl, inr, ℕ, zero, List, [], ◌∷◌, ◌++◌, arith, Contains}
use Rattle.cyc_base.proofs.ListLemmas.{Contains-there, Contains-cases}

pub append_cases : (xs ys : List ℕ) (n : ℕ) → Contains (xs ++ ys) n → Contains xs n ⊎ Contains ys n
append_cases [] ys n c = inr c
append_cases (x ∷ xs) ys n c =
    elim (Contains-cases x (xs ++ ys) n c) [
      | inl e ↦ inl (zero, omega arith, e)
      | inr rest ↦ elim (append_cases xs ys n rest) [ inl a ↦ inl (Contains-there x xs n a) | inr b ↦ inr b ]
    ]
