-- Digits in front of a mark are read back: they end at the first `~`.
use Rattle.std.proofs.Common.{◌≡◌, ◌≢◌, ℕ, suc, ◌^◌, ◌<◌, ◌≤◌, List, [], ◌∷◌, ◌++◌, length, get_or, refl, arith}
use Rattle.std.proofs.lemmas.Fmt.{decimal_is_IsNumeral}
use Rattle.std.proofs.lemmas.Str.Parse.{digit_at}
use Rattle.std.specs.Fmt.{decimal}

abbrev pub NoTilde : List ℕ → Type 0
NoTilde [] = Unit {0}
NoTilde (x ∷ rest) = (x ≢ 126) × NoTilde rest

pub split_at_tilde : (d e r s : List ℕ) → NoTilde d → NoTilde e → d ++ (126 ∷ r) ≡ e ++ (126 ∷ s) → (d ≡ e) × (r ≡ s)
split_at_tilde [] [] r s hd he q = (refl, cc)
split_at_tilde [] (y ∷ e) r s hd he q = let h : y ≡ 126 = cc in absurd (he.0 h)
split_at_tilde (x ∷ d) [] r s hd he q = let h : x ≡ 126 = cc in absurd (hd.0 h)
split_at_tilde (x ∷ d) (y ∷ e) r s hd he q = grind (arith, split_at_tilde d e r s hd.1 he.1)

no_tilde : (d : List ℕ) → ((k : ℕ) → k < length d → get_or d k 0 ≤ 57) → NoTilde d
no_tilde [] h = tt
no_tilde (x ∷ d) h =
    (λ e. let i : x ≤ 57 = h 0 (omega arith) in absurd (omega arith), no_tilde d (λ k l. h (suc k) (omega arith)))

pub decimal_no_tilde : (k : ℕ) → k < 2 ^ 64 → NoTilde (decimal k)
decimal_no_tilde k h = no_tilde (decimal k) (λ i l. (digit_at (decimal k) i ((decimal_is_IsNumeral k h).0.1) l).1)
