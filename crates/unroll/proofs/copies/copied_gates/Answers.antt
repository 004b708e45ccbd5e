use Rattle.std.proofs.Common.{◌≡◌, ◌<◌, ℕ, List, All, arith}
use Rattle.unroll.proofs.Common.{get_or-range_with_len, length-range_with_len, range_with_len}
use Rattle.unroll.proofs.copies.copied_gates.Goals as goal

range_within : (n : ℕ) (xs : List ℕ) → xs ≡ range_with_len 0 n → All (λ k. k < n) xs
range_within n xs e = grind (arith, length-range_with_len, get_or-range_with_len)

pub with_more_copies-requires : goal.with_more_copies-requires
with_more_copies-requires c = grind (arith, range_within)
