-- Marks of some gates.
use Rattle.std.proofs.Common.{◌≡◌, inl, inr, ℕ, zero, suc, ◌<◌, Bool, true, false, List, [], ◌∷◌, length, get_or, sym, arith, Contains, true≢false}
use Rattle.std.specs.Prelude.{◌==◌}
use Rattle.std.proofs.lemmas.Bool.{eqb-true, eq-eqb, or_cases, or_left, or_right}
use Rattle.cyc_base.proofs.TruthLemmas.{same_truth}
use Rattle.dot_text.proofs.Common.{is_marked, Parts}
use Rattle.loops.specs.Cones.{AddMarks}
use Rattle.dot_text.specs.ExplanationGraphs.{is_one_of}
use Rattle.dot_text.specs.Marks.{AreMarksOf}

held : (gates : List ℕ) (n : ℕ) → is_one_of gates n ≡ true → Contains gates n
held [] n is = absurd (true≢false (sym is))
held (gate ∷ gates) n is =
    elim (or_cases (gate == n) (is_one_of gates n) is) [
      | inl here ↦ (zero, omega arith, eqb-true gate n here)
      | inr later ↦ let c = held gates n later in let l = c.1 in (suc c.0, omega arith, c.2)
    ]

found : (gates : List ℕ) (n k : ℕ) → k < length gates → get_or gates k n ≡ n → is_one_of gates n ≡ true
found [] n k inside is = absurd (omega arith)
found (gate ∷ gates) n zero inside is = or_left (gate == n) (is_one_of gates n) (eq-eqb gate n is)
found (gate ∷ gates) n (suc k) inside is = or_right (gate == n) (is_one_of gates n) (found gates n k (omega arith) is)

-- the marks of these gates alone
pub marks_of : (net : Parts) (gates : List ℕ) (old new : List Bool) → length old ≡ length net.gates → ((n : ℕ) → is_marked old n ≡ false)
    → AddMarks (Contains gates) old new → AreMarksOf net gates new
marks_of net gates old new wide none are = grind (arith, same_truth, held gates, true≢false, found gates)
