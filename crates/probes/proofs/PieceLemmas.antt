-- Pieces that are appended one after another.
use Rattle.std.proofs.Common.{◌≡◌, ◌++◌, ℕ, List, ap, ◌∙◌, arith}
use Rattle.probes.proofs.Common.{append_assoc}

step : (old new piece rest : List ℕ) → new ≡ old ++ piece → new ++ rest ≡ old ++ (piece ++ rest)
step old new piece rest e = ap (λ (xs : List ℕ). xs ++ rest) e ∙ append_assoc old piece rest

pub five_pieces : (t0 t1 t2 t3 t4 a b c d e : List ℕ) → t1 ≡ t0 ++ a → t2 ≡ t1 ++ b → t3 ≡ t2 ++ c → t4 ≡ t3 ++ d →
    t4 ++ e ≡ t0 ++ (a ++ (b ++ (c ++ (d ++ e))))
five_pieces t0 t1 t2 t3 t4 a b c d e first second third fourth = grind (arith, step t3 t4 d e fourth, step t2 t3 c (d ++ e) third, step t1 t2 b (c ++ (d ++ e)) second, step t0 t1 a (b ++ (c ++ (d ++ e))) first)
