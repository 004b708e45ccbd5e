-- Marks and digits may stand in a BLIF name.
use Rattle.std.proofs.Common.{ℕ, zero, suc, ◌^◌, ◌<◌, ◌≤◌, List, [], ◌∷◌, length, get_or, All, arith}
use Rattle.std.proofs.lemmas.Fmt.{decimal_is_IsNumeral}
use Rattle.std.proofs.lemmas.List.Elements.{All-nil, All-cons}
use Rattle.std.proofs.lemmas.Str.Parse.{digit_at}
use Rattle.std.specs.Fmt.{decimal}
use Rattle.cyc_base.specs.Names.{IsBlifByte}
use Rattle.cyc_base.specs.Tildes.{tildes}

pub tildes_fit : (n : ℕ) → All IsBlifByte (tildes n)
tildes_fit zero = All-nil IsBlifByte
tildes_fit (suc n) = All-cons IsBlifByte 126 (tildes n) (omega arith, omega arith, λ e. absurd (omega arith)) (tildes_fit n)

digits_fit : (d : List ℕ) → ((k : ℕ) → k < length d → (48 ≤ get_or d k 0) × (get_or d k 0 ≤ 57)) → All IsBlifByte d
digits_fit [] h = All-nil IsBlifByte
digits_fit (x ∷ d) h =
    let a = h 0 (omega arith) in
    All-cons IsBlifByte x d (omega (arith, a.0), omega (arith, a.1), λ e. absurd (omega (arith, a.0, e))) (digits_fit d (λ k l. h (suc k) (omega arith)))

pub decimal_fits : (n : ℕ) → n < 2 ^ 64 → All IsBlifByte (decimal n)
decimal_fits n h = digits_fit (decimal n) (λ k l. digit_at (decimal n) k ((decimal_is_IsNumeral n h).0.1) l)
