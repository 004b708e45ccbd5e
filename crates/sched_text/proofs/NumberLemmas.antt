-- Numbers, read digit by digit.
use Rattle.std.proofs.Common.{◌≡◌, ℕ, ◌+◌, ◌-◌, ◌*◌, ◌≤◌, true, false, ◌&&◌, List, [], ◌∷◌, None, arith}
use Rattle.std.specs.Prelude.{nat_le}
use Rattle.std.proofs.lemmas.Bool.Decides.{nat_tests}
use Rattle.std.specs.Char.{digit_value, is_ascii_digit}
use Rattle.std.specs.Str.Parse.{digits_value_after}
use Rattle.sched_text.specs.Numbers.{up_to_most}

pub value_of_digit : (b : ℕ) → is_ascii_digit b ≡ true → digit_value b ≡ b - 48
value_of_digit b is = grind (arith, nat_tests)

-- more digits make no less of a number
no_less : (n : ℕ) (digits : List ℕ) → n ≤ digits_value_after 10 n digits
no_less n [] = omega arith
no_less n (b ∷ digits) = let more = no_less (n * 10 + digit_value b) digits in omega (arith, more)

pub more_digits : (n m b : ℕ) (rest : List ℕ) → (is_ascii_digit b && nat_le (n * 10 + digit_value b) 4294967295) ≡ true → m ≡ n * 10 + digit_value b
    → up_to_most n (b ∷ rest) ≡ up_to_most m rest
more_digits n m b rest fits is = grind arith

pub no_more_digits : (n b : ℕ) (rest : List ℕ) → (is_ascii_digit b && nat_le (n * 10 + digit_value b) 4294967295) ≡ false → up_to_most n (b ∷ rest) ≡ None
no_more_digits n b rest over = grind (arith, no_less)
