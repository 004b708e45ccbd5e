-- A number in groups of seven bits, group by group.
use Rattle.std.proofs.Common.{◌≡◌, ℕ, zero, suc, ◌+◌, ◌/◌, ◌%◌, ◌<◌, ◌≤◌, [], ◌∷◌, lt-ltb, le-ltb, arith}
use Rattle.std.proofs.lemmas.Bool.{cases_lt}
use Rattle.aig_core.specs.Text.{groups_upto, groups}

-- any more groups are enough
groups_enough : (f g n : ℕ) → n < f → n < g → groups_upto f n ≡ groups_upto g n
groups_enough zero g n few more = absurd (omega (arith, few))
groups_enough (suc f) zero n few more = absurd (omega (arith, more))
groups_enough (suc f) (suc g) n few more = grind (arith, cases_lt n 128, lt-ltb n 128, le-ltb n 128, groups_enough f g (n / 128))

pub groups_step : (n : ℕ) → 128 ≤ n → groups n ≡ (128 + n % 128) ∷ groups (n / 128)
groups_step n far = grind (arith, le-ltb n 128 far, groups_enough n (suc (n / 128)) (n / 128))

pub groups_end : (n : ℕ) → n < 128 → groups n ≡ n ∷ []
groups_end n few = grind (arith, lt-ltb n 128 few)
