-- A rising row of lists of one length stands still after as many steps as a list has values.
use Rattle.std.proofs.Common.{◌≡◌, ◌⊎◌, ℕ, zero, suc, ◌<◌, ◌≤◌, List, length, arith}
use Rattle.loops.proofs.Common.{Trit}
use Rattle.cyc_base.specs.Values.{EachBelow}
use Rattle.netlist.proofs.FixpointLemmas.{known_count, known_count-le, same_or_more}

module _ (row : ℕ → List Trit) (rises : (k : ℕ) → EachBelow (row k) (row (suc k))) (stays : (k : ℕ) → row k ≡ row (suc k) → row (suc k) ≡ row (suc (suc k))) where
  still_or_more : (k : ℕ) → (row k ≡ row (suc k)) ⊎ (k < known_count (row (suc k)))
  still_or_more zero = grind (arith, same_or_more (row zero) (row (suc zero)) (rises zero))
  still_or_more (suc k) = grind (arith, still_or_more k, same_or_more)

  pub stands_still : (n : ℕ) → length (row (suc n)) ≤ n → row n ≡ row (suc n)
  stands_still n short = grind (arith, still_or_more, known_count-le)
