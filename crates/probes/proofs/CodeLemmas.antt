-- Codes are numbers without a zero.
use Rattle.std.proofs.Common.{◌≡◌, ◌<◌, ◌≤◌, ◌+◌, ◌-◌, ◌*◌, ◌/◌, ◌%◌, ℕ, zero, suc, List, [], ◌∷◌, ap, arith}
use Rattle.probes.proofs.Common.{cases_lt, lt-ltb, le-ltb, code_upto, code}
use Rattle.probes.specs.Codes.{CodesDiffer}

-- any more digits are enough
code_enough : (f g n : ℕ) → n < f → n < g → code_upto f n ≡ code_upto g n
code_enough zero g n few more = absurd (omega (arith, few))
code_enough (suc f) zero n few more = absurd (omega (arith, more))
code_enough (suc f) (suc g) n few more = grind (arith, cases_lt n 94, lt-ltb n 94, le-ltb n 94, code_enough f g (n / 94 - 1))

pub code_step : (n : ℕ) → 94 ≤ n → code n ≡ (33 + n % 94) ∷ code (n / 94 - 1)
code_step n far = grind (arith, le-ltb n 94 far, code_enough n (suc (n / 94 - 1)) (n / 94 - 1))

-- one more than the number that has these digits
number_after : List ℕ → ℕ
number_after [] = 0
number_after (d ∷ ds) = (d - 32) + 94 * number_after ds

after_code : (f n : ℕ) → n < f → number_after (code_upto f n) ≡ n + 1
unfolding number_after
after_code zero n few = omega (arith, few)
after_code (suc f) n few = grind (arith, cases_lt n 94, lt-ltb n 94, le-ltb n 94, after_code f (n / 94 - 1))

pub codes_differ : CodesDiffer
codes_differ m n e = omega (arith, after_code (suc m) m (omega arith), after_code (suc n) n (omega arith), ap number_after e)
