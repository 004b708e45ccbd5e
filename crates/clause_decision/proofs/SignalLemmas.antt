-- What signals stand for in a cone, where they are known at the fixpoint.
use Rattle.std.proofs.Common.{◌≡◌, ◌≢◌, inl, inr, ℕ, ◌<◌, ◌≤◌, ◌+◌, ◌-◌, ◌*◌, Bool, true, List, [], ◌∷◌, length, map, get_or, sym, subst, ◌∙◌, arith}
use Rattle.std.specs.List.{All}
use Rattle.clause_decision.proofs.Common.{cases_lt, length-map, length-take-le, get_or-take, All-cons, All-nil, All-map, All-take, All-get_or, Sig, Trit, X, bit, bits, Parts, count, wire, fix, fix_gates, first_gate, gate_of, value_in, columns, Rails, IsWanted, gate_rails, negation, Reads, ReadsAll, AreWithin, no_rails, rails_at, ReadsAll-at, IsWithin, column_rails, ReadsAbove, is_marked}
use Rattle.std.proofs.lemmas.List.{get_or_append_left}
use Rattle.cyc_base.proofs.OrderLemmas.{Below-refl}
use Rattle.loops.proofs.Reading.{wire_of_gate}
use Rattle.ternary_clauses.specs.Encoding.{ReadsGates}

pub negation-within : (l k : ℕ) → l < 2 * k → negation l < 2 * k
negation-within l k less = grind arith

pub three : (P : ℕ → Type 0) (a b c : ℕ) → P a → P b → P c → All P (a ∷ b ∷ c ∷ [])
three P a b c x y z = All-cons P a (b ∷ c ∷ []) x (All-cons P b (c ∷ []) y (All-cons P c [] z (All-nil P)))

pub column_rails-length : (net : Parts) (rails : List Rails) → length rails ≡ count net → length (column_rails net rails) ≡ columns net
column_rails-length net rails size = length-take-le (columns net) rails (omega (arith, size))

-- the literals of the columns are of the formula
pub ones-within : (net : Parts) (rails : List Rails) (k : ℕ) → All (AreWithin k) rails → IsWithin k (map (λ r. r.one) (column_rails net rails))
ones-within net rails k within =
    All-map (λ l. l < 2 * k) (λ (r : Rails). r.one) (column_rails net rails)
    (λ i d less. (All-get_or (AreWithin k) (column_rails net rails) i d less (All-take (AreWithin k) (columns net) rails within)).one)

-- a model that reads the fixpoint reads a state above it
pub fix-above : (net : Parts) (gates : List Bool) (rails : List Rails) (m v : List Bool) → ReadsGates net gates rails m (fix_gates net (bits v)) → ReadsAbove net gates rails m v
fix-above net gates rails m v reads = record { state = fix_gates net (bits v); reads = reads; above = λ n is. Below-refl (value_in (fix_gates net (bits v)) n) }

-- a signal stands for its value at the fixpoint where its gate does
pub signal-at : (net : Parts) (rails : List Rails) (m v : List Bool) → length rails ≡ count net → length v ≡ columns net → ReadsAll m (column_rails net rails) (bits v) →
    (s : Sig) → (first_gate net ≤ s.0 → Reads m (gate_rails net rails (gate_of net s)) (value_in (fix_gates net (bits v)) (gate_of net s))) → Reads m (rails_at rails s.0) (wire (fix net (bits v)) s)
signal-at net rails m v size wide reads s gate = elim (cases_lt s.0 (first_gate net)) [
  | inl low ↦
      let at : Reads m (get_or (column_rails net rails) s.0 no_rails) (get_or (bits v) s.0 X) =
      ReadsAll-at m (column_rails net rails) (bits v) s.0 no_rails X (let l = column_rails-length net rails size in omega (arith, low, l)) reads in
      subst (λ (t : Trit). Reads m (rails_at rails s.0) t) (sym (get_or_append_left (bits v) (fix_gates net (bits v)) X s.0 (omega (arith, low, long))))
      (subst (λ (r : Rails). Reads m r (get_or (bits v) s.0 X)) (get_or-take (columns net) rails s.0 no_rails low) at)
  | inr high ↦
      let number : first_gate net + gate_of net s ≡ s.0 = omega (arith, high) in
      subst (λ (k : ℕ). Reads m (rails_at rails k) (wire (fix net (bits v)) s)) number
      (subst (λ (t : Trit). Reads m (gate_rails net rails (gate_of net s)) t) (sym (wire_of_gate (bits v) (fix_gates net (bits v)) (first_gate net) s.0 long high)) (gate high))
]
  where
    long : length (bits v) ≡ first_gate net
    long = length-map v bit ∙ wide

-- a gate that is known stands for its value at the fixpoint
pub gate-read : (net : Parts) (gates : List Bool) (rails : List Rails) (m v : List Bool) → ReadsAbove net gates rails m v → (n : ℕ) → IsWanted net gates n → value_in (fix_gates net (bits v)) n ≢ X →
    Reads m (gate_rails net rails n) (value_in (fix_gates net (bits v)) n)
gate-read net gates rails m v above n wanted known = grind arith

-- a signal that is known does
pub signal-read : (net : Parts) (gates : List Bool) (rails : List Rails) (m v : List Bool) → length rails ≡ count net → length v ≡ columns net →
    ReadsAll m (column_rails net rails) (bits v) → ReadsAbove net gates rails m v →
    (s : Sig) → s.0 < count net → (first_gate net ≤ s.0 → is_marked gates (gate_of net s) ≡ true) → wire (fix net (bits v)) s ≢ X → Reads m (rails_at rails s.0) (wire (fix net (bits v)) s)
signal-read net gates rails m v size wide reads above s inside marked known =
    signal-at net rails m v size wide reads s (λ high.
    gate-read net gates rails m v above (gate_of net s) (record { within = omega (arith, inside, high); marked = marked high })
    (λ x. known (wire_of_gate (bits v) (fix_gates net (bits v)) (first_gate net) s.0 (length-map v bit ∙ wide) high ∙ x)))
