-- What the small netlist of some gates has to do with the whole.
use Rattle.std.proofs.Common.{◌≡◌, ◌≢◌, ℕ, zero, suc, ◌<◌, Bool, true, false, List, [], ◌∷◌, ◌++◌, length, map, get_or, refl, sym, ap, ap₂, ◌∙◌, subst, arith}
use Rattle.isolation.proofs.Common.{get_or-map, length-map, length-append, map-append, ext_get_or, map-map, Sig, Trit, X, bit, bits, ext, Cover, Parts, IsNetlist, count, signal, gate_at, gate_sig, wire, fix, fix_gates, first_gate, value_in, wire_of_gate, origins, origin, gate_in, inputs_in, IsExcerpt}
use Rattle.cyc_base.specs.declared.trit.Trit.TheVariants.{Zero, One}
use Rattle.cyc_base.specs.Values.{EachBelow}
use Rattle.cyc_base.proofs.OrderLemmas.{EachBelow-at, Below-known}
use Rattle.netlist.specs.Fixpoint.{step}
use Rattle.netlist.proofs.FixpointLemmas.{fix_is_least, length-step, get_or-step, get_or-fix}
use Rattle.loops.proofs.Reading.{map_agree}
use Rattle.isolation.specs.Settled.{IsDetermined}

-- values that are all known are a list of bits
pub known_list : (xs : List Trit) → ((k : ℕ) (d : Trit) → k < length xs → get_or xs k d ≢ X) → (us : List Bool) × (bits us ≡ xs)
known_list [] h = ([], refl)
known_list (X ∷ xs) h = absurd (h zero X (omega arith) refl)
known_list (Zero ∷ xs) h = let r = known_list xs (λ k d l. h (suc k) d (omega arith)) in (false ∷ r.0, ap (λ ys. Zero ∷ ys) r.1)
known_list (One ∷ xs) h = let r = known_list xs (λ k d l. h (suc k) d (omega arith)) in (true ∷ r.0, ap (λ ys. One ∷ ys) r.1)

-- the gates of the small netlist, as the whole has them
abbrev pub gates_in : Parts → List Trit → List ℕ → List Trit
gates_in net v gates = map (value_in (fix_gates net v)) gates

module _ (net : Parts) (outside : List Sig) (gates : List ℕ) (small : Parts) (valid : IsNetlist small) (is : IsExcerpt net outside gates small) where
  pub first-small : first_gate small ≡ length outside
  first-small = let i = is.inputs in let l = is.latches in omega (arith, i, l)

  pub length-origins : length (origins net outside gates) ≡ count small
  length-origins =
      omega (arith, length-append outside (map (gate_sig net) gates), length-map gates (gate_sig net), is.inputs, is.latches, is.size)

  pub pin-within : (i k : ℕ) (none : Sig) → i < length gates → k < length (gate_at small i).pins → (get_or (gate_at small i).pins k none).0 < length (origins net outside gates)
  pin-within i k none inside here = grind (arith, length-origins)

  module _ (v : List Trit) (width : length v ≡ first_gate net) where
    pub gate_wire : (n : ℕ) → wire (fix net v) (gate_sig net n) ≡ value_in (fix_gates net v) n
    gate_wire n = grind (arith, wire_of_gate v (fix_gates net v) (first_gate net) (gate_sig net n).0 width)

    pub values_at_fix : inputs_in net v outside ++ gates_in net v gates ≡ map (wire (fix net v)) (origins net outside gates)
    values_at_fix = grind (arith, map-map (wire (fix net v)) (gate_sig net) gates, map_agree, gate_wire, map-append (wire (fix net v)) outside (map (gate_sig net) gates))

    pub reads_at_fix : (i : ℕ) → i < length gates → map (wire (inputs_in net v outside ++ gates_in net v gates)) (gate_at small i).pins ≡ map (wire (fix net v)) (gate_at net (gate_in gates i)).pins
    reads_at_fix i inside =
        map_agree (wire (inputs_in net v outside ++ gates_in net v gates)) (λ s. wire (fix net v) (origin (origins net outside gates) s)) (gate_at small i).pins
        (λ k d here.
        ap (λ (xs : List Trit). wire xs (get_or (gate_at small i).pins k d)) values_at_fix
        ∙ get_or-map (wire (fix net v)) (origins net outside gates) (get_or (gate_at small i).pins k d).0 (signal 0) X (pin-within i k d inside here))
        ∙ sym (map-map (wire (fix net v)) (origin (origins net outside gates)) (gate_at small i).pins)
        ∙ ap (map (wire (fix net v))) (is.pins i inside)

    -- the small netlist's step leaves the whole's fixpoint as it is
    pub step_at_fix : ((i : ℕ) → i < length gates → gate_in gates i < length net.gates) → step small (inputs_in net v outside) (gates_in net v gates) ≡ gates_in net v gates
    step_at_fix inside =
        ext_get_or X (step small (inputs_in net v outside) (gates_in net v gates)) (gates_in net v gates)
        (length-step small (inputs_in net v outside) (gates_in net v gates) ∙ is.size ∙ sym (length-map gates (value_in (fix_gates net v))))
        (λ i less.
        let l : i < length small.gates = subst (λ (m : ℕ). i < m) (length-step small (inputs_in net v outside) (gates_in net v gates)) less in
        let within : i < length gates = omega (arith, is.size) in
        get_or-step small (inputs_in net v outside) (gates_in net v gates) i l
        ∙ ap₂ (λ (c : Cover) (xs : List Trit). ext c xs) (is.covers i within) (reads_at_fix i within)
        ∙ sym (get_or-fix net v (gate_in gates i) (inside i within))
        ∙ sym (get_or-map (value_in (fix_gates net v)) gates i 0 X within))

    -- so the small netlist's fixpoint is below it
    pub fix_below : ((i : ℕ) → i < length gates → gate_in gates i < length net.gates) → EachBelow (fix_gates small (inputs_in net v outside)) (gates_in net v gates)
    fix_below inside = fix_is_least small (inputs_in net v outside) (gates_in net v gates) (step_at_fix inside)

    -- where the small netlist has no X at Boolean vectors, the gates are known where the wires outside are
    pub gates_known : ((i : ℕ) → i < length gates → gate_in gates i < length net.gates) → IsDetermined small → ((k : ℕ) (d : Sig) → k < length outside → wire (fix net v) (get_or outside k d) ≢ X) →
        (i : ℕ) → i < length gates → value_in (fix_gates net v) (gate_in gates i) ≢ X
    gates_known inside determined known i within x =
        let us = known_list (inputs_in net v outside) (λ k d less.
        let l : k < length outside = subst (λ (m : ℕ). k < m) (length-map outside (wire (fix net v))) less in
        λ e. known k (signal 0) l (sym (get_or-map (wire (fix net v)) outside k (signal 0) d l) ∙ e)) in
        let wide : length us.0 ≡ first_gate small = sym (length-map us.0 bit) ∙ ap length us.1 ∙ length-map outside (wire (fix net v)) ∙ sym first-small in
        let low : value_in (fix_gates small (inputs_in net v outside)) i ≢ X = subst (λ (xs : List Trit). value_in (fix_gates small xs) i ≢ X) us.1 (determined us.0 wide i (omega (arith, is.size))) in
        low (sym (Below-known (value_in (fix_gates small (inputs_in net v outside)) i) (value_in (gates_in net v gates) i) (EachBelow-at (fix_gates small (inputs_in net v outside)) (gates_in net v gates) i (fix_below inside)) low)
        ∙ get_or-map (value_in (fix_gates net v)) gates i 0 X within ∙ x)
