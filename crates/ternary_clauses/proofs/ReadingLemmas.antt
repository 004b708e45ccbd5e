-- What rails and lists of them are read as.
use Rattle.std.proofs.Common.{◌≡◌, ℕ, zero, suc, ◌<◌, ◌≤◌, ◌+◌, ◌*◌, Bool, false, List, [], ◌∷◌, ◌++◌, length, get_or, sym, arith}
use Rattle.ternary_clauses.proofs.Common.{All-get_or, All-weaker, All, Trit, X, Rails, Reads, ReadsAll, AreWithin, no_rails, new_rails}
use Rattle.std.proofs.lemmas.Slice.Zip.{AllZip-long}
use Rattle.clause_formulas.proofs.ClauseLemmas.{says-more, says-even, get_or-after}
use Rattle.ternary_clauses.proofs.NodeCases.{new_values}

-- ---- readings at further variables

pub Reads-more : (m more : List Bool) (r : Rails) (t : Trit) → AreWithin (length m) r → Reads m r t → Reads (m ++ more) r t
Reads-more m more r t is h = grind (arith, says-more m more r.one is.one, says-more m more r.zero is.zero, says-more m more r.known is.known)

pub new-read : (m : List Bool) (v : ℕ) (t : Trit) → length m ≡ v → Reads (m ++ new_values t) (new_rails v) t
new-read m v t e =
    grind (arith, says-even (m ++ new_values t) (2 * v) v, get_or-after m (new_values t) v 0 false, says-even (m ++ new_values t) (2 * v + 2) (v + 1), get_or-after m (new_values t) (v + 1) 1 false, says-even (m ++ new_values t) (2 * v + 4) (v + 2), get_or-after m (new_values t) (v + 2) 2 false)

pub within-more : (v w : ℕ) (r : Rails) → v ≤ w → AreWithin v r → AreWithin w r
within-more v w r less is = record { one = omega (arith, is.one); zero = omega (arith, is.zero); known = omega (arith, is.known) }

pub All-within-more : (v w : ℕ) (rs : List Rails) → v ≤ w → All (AreWithin v) rs → All (AreWithin w) rs
All-within-more v w rs less all = All-weaker (AreWithin v) (AreWithin w) (λ r is. within-more v w r less is) rs all

-- ---- lists of readings

pub ReadsAll-length : (m : List Bool) (rs : List Rails) (ts : List Trit) → ReadsAll m rs ts → length rs ≡ length ts
ReadsAll-length m rs ts h = sym (AllZip-long (Reads m) rs ts h)

pub ReadsAll-at : (m : List Bool) (rs : List Rails) (ts : List Trit) (i : ℕ) (d : Rails) (e : Trit) → i < length rs → ReadsAll m rs ts → Reads m (get_or rs i d) (get_or ts i e)
ReadsAll-at m [] ts i d e less h = absurd (omega (arith, less))
ReadsAll-at m (r ∷ rs) [] i d e less h = absurd h
ReadsAll-at m (r ∷ rs) (t ∷ ts) zero d e less h = h.0
ReadsAll-at m (r ∷ rs) (t ∷ ts) (suc i) d e less h = ReadsAll-at m rs ts i d e (omega (arith, less)) h.1

pub ReadsAll-from : (m : List Bool) (rs : List Rails) (ts : List Trit) (d : Rails) (e : Trit) → length rs ≡ length ts → ((i : ℕ) → i < length rs → Reads m (get_or rs i d) (get_or ts i e)) → ReadsAll m rs ts
ReadsAll-from m [] [] d e len h = tt
ReadsAll-from m [] (t ∷ ts) d e len h = absurd (omega (arith, len))
ReadsAll-from m (r ∷ rs) [] d e len h = absurd (omega (arith, len))
ReadsAll-from m (r ∷ rs) (t ∷ ts) d e len h = (h zero (omega arith), ReadsAll-from m rs ts d e (omega (arith, len)) (λ i less. h (suc i) (omega (arith, less))))

pub ReadsAll-more : (m more : List Bool) (rs : List Rails) (ts : List Trit) → All (AreWithin (length m)) rs → ReadsAll m rs ts → ReadsAll (m ++ more) rs ts
ReadsAll-more m more rs ts all h =
    ReadsAll-from (m ++ more) rs ts no_rails X (ReadsAll-length m rs ts h) (λ i less.
    Reads-more m more (get_or rs i no_rails) (get_or ts i X) (All-get_or (AreWithin (length m)) rs i no_rails less all) (ReadsAll-at m rs ts i no_rails X less h))
