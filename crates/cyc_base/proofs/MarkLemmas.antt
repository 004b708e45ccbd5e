-- A run of so many `~`, alone and in a text.
use Rattle.std.proofs.Common.{◌≡◌, ℕ, zero, suc, ◌≤◌, List, [], ◌∷◌, ◌++◌, replicate, refl, ap, arith}
use Rattle.cyc_base.specs.Tildes.{leading_run, longest_run, tildes}
use Rattle.cyc_base.proofs.TildeLemmas.{leading_longest, longest_behind}

pub tildes_push : (n : ℕ) → tildes n ++ 126 ∷ [] ≡ 126 ∷ tildes n
tildes_push zero = refl
tildes_push (suc n) = ap (λ ts. 126 ∷ ts) (tildes_push n)

pub tildes_all : (n : ℕ) → replicate n 126 ≡ tildes n
tildes_all zero = refl
tildes_all (suc n) = ap (λ ts. 126 ∷ ts) (tildes_all n)

leading_tildes : (n : ℕ) (b : List ℕ) → n ≤ leading_run (tildes n ++ b)
leading_tildes zero b = omega arith
leading_tildes (suc n) b = let h = leading_tildes n b in omega arith

pub run_longest : (a b : List ℕ) (n : ℕ) → n ≤ longest_run (a ++ (tildes n ++ b))
run_longest a b n = grind (arith, longest_behind a (tildes n ++ b), leading_longest (tildes n ++ b), leading_tildes n b)

pub without_tildes : (n : ℕ) (r s : List ℕ) → tildes n ++ r ≡ tildes n ++ s → r ≡ s
without_tildes zero r s q = q
without_tildes (suc n) r s q = let t : tildes n ++ r ≡ tildes n ++ s = cc in without_tildes n r s t
