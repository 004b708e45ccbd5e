-- The short names of signals in a dump: numbers to the base 94 without a zero, in the printed characters from `!` to `~`.
use Rattle.std.specs.Prelude.{◌≡◌, ◌+◌, ◌-◌, ◌/◌, ◌%◌, ℕ, zero, suc, nat_lt, if◌then◌else◌, List, [], ◌∷◌}

-- at most so many digits, the least one first
abbrev pub code_upto : ℕ → ℕ → List ℕ
code_upto zero n = []
code_upto (suc fuel) n =
    if nat_lt n 94 then (33 + n) ∷ [] else (33 + n % 94) ∷ code_upto fuel (n / 94 - 1)

abbrev pub code : ℕ → List ℕ
code n = code_upto (suc n) n

-- Different numbers have different codes.
abbrev pub CodesDiffer : Type 0
CodesDiffer = (m n : ℕ) → code m ≡ code n → m ≡ n
