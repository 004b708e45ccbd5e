-- A netlist that stands in another one, gate by gate, has there the fixpoint that it has alone.
use Rattle.std.proofs.Common.{◌≡◌, ℕ, zero, suc, ◌+◌, ◌-◌, ◌<◌, ◌≤◌, List, length, map, get_or, sym, ap, ap₂, ◌∙◌, arith}
use Rattle.miters.proofs.Common.{cases_lt, get_or_append_left, get_or-replicate, map-map, Sig, Trit, X, ext, Parts, gate_at, no_gate, IsSignal, IsNetlist, wires, wire, steps, fix, fix_gates, map_agree, wire_of_gate, columns, get_or-step}
use Rattle.cover_logic.specs.Covers.{Cover}
use Rattle.netlist.proofs.FixpointLemmas.{fix_is_reached}

-- the signals of the small netlist are these of the big one: columns are columns, and each gate has its cover and its pins
pub record IsPartOf (small big : Parts) (at : Sig → Sig) (place : ℕ → ℕ) : Type 0 where
  pub few : length small.gates ≤ length big.gates
  pub within : (n : ℕ) → n < length small.gates → place n < length big.gates
  pub covers : (n : ℕ) → n < length small.gates → (gate_at big (place n)).cover ≡ (gate_at small n).cover
  pub pins : (n : ℕ) → n < length small.gates → (gate_at big (place n)).pins ≡ map at (gate_at small n).pins
  pub gates : (s : Sig) → columns small ≤ s.0 → IsSignal small s → (at s).0 ≡ columns big + place (s.0 - columns small)
  pub column : (s : Sig) → s.0 < columns small → (at s).0 < columns big

module _ (small big : Parts) (at : Sig → Sig) (place : ℕ → ℕ) (part : IsPartOf small big at place) (valid : IsNetlist small)
    (v w : List Trit) (wide_v : length v ≡ columns small) (wide_w : length w ≡ columns big)
    (same : (s : Sig) → s.0 < columns small → get_or w (at s).0 X ≡ get_or v s.0 X) where
  wire_at : (s t : List Trit) → ((n : ℕ) → n < length small.gates → get_or t (place n) X ≡ get_or s n X) → (x : Sig) → IsSignal small x → wire (wires w t) (at x) ≡ wire (wires v s) x
  wire_at s t gates x inside = grind (arith, cases_lt x.0 (columns small), get_or_append_left w t X (at x).0, get_or_append_left v s X x.0, wire_of_gate w t (columns big) (at x).0 wide_w, wire_of_gate v s (columns small) x.0 wide_v)

  steps_at : (k n : ℕ) → n < length small.gates → get_or (steps big w k) (place n) X ≡ get_or (steps small v k) n X
  steps_at zero n l = grind (arith, get_or-replicate (length big.gates) (place n) X X (part.within n l), get_or-replicate (length small.gates) n X X l)
  steps_at (suc k) n l =
      get_or-step big w (steps big w k) (place n) (part.within n l)
      ∙ ap₂ (λ (c : Cover) (xs : List Trit). ext c xs) (part.covers n l)
      (ap (map (wire (wires w (steps big w k)))) (part.pins n l)
      ∙ map-map (wire (wires w (steps big w k))) at (gate_at small n).pins
      ∙ map_agree (λ x. wire (wires w (steps big w k)) (at x)) (wire (wires v (steps small v k))) (gate_at small n).pins
      (λ i d here. wire_at (steps small v k) (steps big w k) (steps_at k) (get_or (gate_at small n).pins i d) (valid.pins n no_gate l i d here)))
      ∙ sym (get_or-step small v (steps small v k) n l)

  pub fix_at : (x : Sig) → IsSignal small x → wire (fix big w) (at x) ≡ wire (fix small v) x
  fix_at = grind (arith, wire_at (fix_gates small v) (fix_gates big w), steps_at (length big.gates), fix_is_reached small v (length big.gates) part.few)
