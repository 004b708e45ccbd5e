-- The fixpoint of an excerpt is the whole's.
use Rattle.std.proofs.Common.{◌≡◌, inl, inr, ℕ, zero, suc, ◌-◌, ◌<◌, List, length, map, get_or, refl, sym, ap, ◌∙◌, subst, arith}
use Rattle.isolation.proofs.Common.{cases_lt, get_or-map, get_or_append_left, get_or-append_right, get_or-replicate, length-map, length-append, map-map, Sig, Trit, X, Parts, IsNetlist, signal, gate_at, gate_sig, wire, fix, fix_gates, first_gate, value_in, wire_of_gate, origins, origin, gate_in, inputs_in, IsExcerpt}
use Rattle.cyc_base.specs.Values.{Below}
use Rattle.cyc_base.proofs.OrderLemmas.{Below-antisym, EachBelow-at, EachBelow-append, EachBelow-refl, EachBelow-map_at}
use Rattle.cover_logic.proofs.ExtensionLemmas.{ext_is_monotone}
use Rattle.netlist.specs.Fixpoint.{wires, steps}
use Rattle.netlist.proofs.FixpointLemmas.{steps_below_fix, get_or-step, get_or-fix}
use Rattle.isolation.proofs.ExcerptLemmas.{gates_in, pin-within, fix_below}

module _ (net : Parts) (outside : List Sig) (gates : List ℕ) (small : Parts) (valid : IsNetlist small) (is : IsExcerpt net outside gates small) (inside : (i : ℕ) → i < length gates → gate_in gates i < length net.gates) (v : List Trit) (width : length v ≡ first_gate net) where
  abbrev inputs : List Trit
  inputs = inputs_in net v outside

  -- each step of the whole stays below the small netlist's fixpoint
  steps-below : (k i : ℕ) → i < length gates → Below (value_in (steps net v k) (gate_in gates i)) (value_in (fix_gates small inputs) i)
  steps-below zero i il = rw (get_or-replicate (length net.gates) (gate_in gates i) X X (inside i il)) tt
  steps-below (suc k) i il =
      rw (get_or-step net v (steps net v k) (gate_in gates i) (inside i il), get_or-fix small inputs i (omega (arith, is.size)), ← is.covers i il, ← is.pins i il, map-map (wire (wires v (steps net v k))) (origin (origins net outside gates)) (gate_at small i).pins)
      (ext_is_monotone (gate_at small i).cover (map (λ p. wire (wires v (steps net v k)) (origin (origins net outside gates) p)) (gate_at small i).pins) (map (wire (fix small inputs)) (gate_at small i).pins)
      (EachBelow-map_at (λ p. wire (wires v (steps net v k)) (origin (origins net outside gates) p)) (wire (fix small inputs)) (gate_at small i).pins
      (λ j d jl. pin-below (get_or (gate_at small i).pins j d) (pin-within net outside gates small valid is i j d il jl) (λ q ql. steps-below k q ql))))
    where
      pin-below : (p : Sig) → p.0 < length (origins net outside gates) → ((q : ℕ) → q < length gates → Below (value_in (steps net v k) (gate_in gates q)) (value_in (fix_gates small inputs) q)) → Below (wire (wires v (steps net v k)) (origin (origins net outside gates) p)) (wire (fix small inputs) p)
      pin-below p l before = elim (cases_lt p.0 (length outside)) [
        | inl low ↦
            subst (λ (t : Trit). Below (wire (wires v (steps net v k)) (origin (origins net outside gates) p)) t)
            (ap (wire (fix net v)) (get_or_append_left outside (map (gate_sig net) gates) (signal 0) p.0 low)
            ∙ sym (get_or_append_left inputs (fix_gates small inputs) X p.0 (omega (arith, length-map outside (wire (fix net v)))) ∙ get_or-map (wire (fix net v)) outside p.0 (signal 0) X low))
            (EachBelow-at (wires v (steps net v k)) (fix net v) (origin (origins net outside gates) p).0 (EachBelow-append v v (steps net v k) (fix_gates net v) (EachBelow-refl v) (steps_below_fix net v k)))
        | inr high ↦
            let q = p.0 - length outside in
            let ql : q < length gates = omega (arith, length-append outside (map (gate_sig net) gates), length-map gates (gate_sig net)) in
            let len = length-map outside (wire (fix net v)) in
            let o : origin (origins net outside gates) p ≡ gate_sig net (gate_in gates q) =
            get_or-append_right outside (map (gate_sig net) gates) (length outside) p.0 (signal 0) refl high ∙ get_or-map (gate_sig net) gates q 0 (signal 0) ql in
            subst (λ (t : Trit). Below t (wire (fix small inputs) p)) (sym (wire_of_gate v (steps net v k) (first_gate net) (gate_sig net (gate_in gates q)).0 width (omega arith) ∙ ap (value_in (steps net v k)) (omega arith)) ∙ sym (ap (wire (wires v (steps net v k))) o))
            (subst (λ (t : Trit). Below (value_in (steps net v k) (gate_in gates q)) t) (sym (get_or-append_right inputs (fix_gates small inputs) (length outside) p.0 X len high)) (before q ql))
      ]

  pub fix-kept : (i : ℕ) → i < length gates → value_in (fix_gates small inputs) i ≡ value_in (fix_gates net v) (gate_in gates i)
  fix-kept i il =
      Below-antisym (value_in (fix_gates small inputs) i) (value_in (fix_gates net v) (gate_in gates i))
      (subst (λ (t : Trit). Below (value_in (fix_gates small inputs) i) t) (get_or-map (value_in (fix_gates net v)) gates i 0 X il)
      (EachBelow-at (fix_gates small inputs) (gates_in net v gates) i (fix_below net outside gates small valid is v width inside)))
      (steps-below (length net.gates) i il)
