-- Printed names differ: digits, the mark and the rest are read back from them.
use Rattle.std.proofs.Common.{◌≡◌, ℕ, zero, suc, ◌^◌, ◌<◌, ◌≤◌, List, [], ◌∷◌, ◌++◌, Contains, refl, ap, arith}
use Rattle.std.proofs.lemmas.Fmt.{decimal_injective}
use Rattle.flatten.proofs.Common.{decimal, longest_run_of, tildes, Wire}
use Rattle.cyc_base.specs.Tildes.{longest_run}
use Rattle.cyc_base.proofs.MarkLemmas.{run_longest, without_tildes}
use Rattle.cyc_base.proofs.DigitLemmas.{split_at_tilde, decimal_no_tilde}
use Rattle.flatten.specs.Wires.{mark, printed_at, printed}

one_longest : (names : List (List ℕ)) (v : List ℕ) → Contains names v → longest_run v ≤ longest_run_of names
one_longest [] v h = absurd (omega (arith, h.1))
one_longest (name ∷ names) v (zero, l, e) = let h = ap longest_run e in omega arith
one_longest (name ∷ names) v (suc k, l, e) = let h = one_longest names v (k, omega (arith, l), e) in omega arith

-- numbers that a `u64` holds
abbrev pub AreNumbers : List ℕ → Type 0
AreNumbers [] = Unit {0}
AreNumbers (k ∷ path) = (k < 2 ^ 64) × AreNumbers path

apart : (l : ℕ) (p q v w : List ℕ) → longest_run v ≤ l → longest_run w ≤ l → AreNumbers p → AreNumbers q → printed_at (tildes (suc l)) p v ≡ printed_at (tildes (suc l)) q w → (p ≡ q) × (v ≡ w)
apart l [] [] v w hv hw hp hq e = (refl, e)
apart l [] (k ∷ q) v w hv hw hp hq e = grind (arith, run_longest (decimal k) (printed_at (tildes (suc l)) q w) (suc l))
apart l (k ∷ p) [] v w hv hw hp hq e = grind (arith, run_longest (decimal k) (printed_at (tildes (suc l)) p v) (suc l))
apart l (k ∷ p) (j ∷ q) v w hv hw hp hq e =
    let c = split_at_tilde (decimal k) (decimal j) (tildes l ++ printed_at (tildes (suc l)) p v) (tildes l ++ printed_at (tildes (suc l)) q w) (decimal_no_tilde k hp.0) (decimal_no_tilde j hq.0) e in
    let n = decimal_injective k j hp.0 hq.0 c.0 in
    let t = without_tildes l _ _ c.1 in
    let i = apart l p q v w hv hw hp.1 hq.1 t in
    (let m : p ≡ q = i.0 in cc, i.1)

wire_eq : (p q v w : List ℕ) → p ≡ q → v ≡ w → ◌≡◌ {A = Wire} (record { path = p; name = v }) (record { path = q; name = w })
wire_eq p q v w e f = cc

-- the printed names of two wires are equal only where the wires are
pub printed_differs : (names : List (List ℕ)) (v w : Wire) → Contains names v.name → Contains names w.name → AreNumbers v.path → AreNumbers w.path → printed (mark names) v ≡ printed (mark names) w → v ≡ w
printed_differs names v w hv hw pv pw e =
    grind (arith, apart (longest_run_of names) v.path w.path v.name w.name (one_longest names v.name hv) (one_longest names w.name hw) pv pw e, one_longest names v.name hv, one_longest names w.name hw, wire_eq v.path w.path v.name w.name)
