-- Gates lifted one by one, each after those that it reads.
use Rattle.std.proofs.Common.{◌≡◌, inl, inr, ℕ, ◌+◌, ◌<◌, Bool, List, ◌++◌, length, map, get_or, replicate, refl, sym, ap, ap₂, ◌∙◌, subst, arith}
use Rattle.fixpoint.proofs.Common.{cases_lt, get_or_default, length-append, length-replicate, get_or_append_left, get_or-map, length-map, All-set, All-append, All-get_or, All, Arena, KeepsNodes, ext, Sig, X, Rails, AreRailsOf, value_of, values_of, BoundsEach, All-rails-kept, Gate, Parts, wire, fix, fix_gates, IsNetlist, IsSignal, count, gate_at, no_gate, Feeds, first_gate, gate_of, value_in, map_agree, wire_of_gate, feeds_at, BoundsGate, AreLifted, Vectors, unknown, rails_at, no_loops, IsGatePart, read_at_fix}
use Rattle.std.proofs.lemmas.List.{length-set}
use Rattle.std.proofs.lemmas.List.Elements.{All-replicate}
use Rattle.std.specs.List.{slice_index}
use Rattle.dual_rail.proofs.SurelyLemmas.{length-values}
use Rattle.netlist.specs.Orders.{IsGateOrder}
use Rattle.netlist.proofs.FixpointLemmas.{get_or-fix}
use Rattle.fixpoint.specs.Lifting.{rails_of_pin, AreSignalRails, IsLifted}
use Rattle.fixpoint.proofs.WireLemmas.{unknown-rails, pins-values, set-same, set-other, values-fixed}
use Rattle.fixpoint.proofs.WorkLemmas.{bounds-lift}

-- the rails stay proper when a gate is set
pub rails-set : {net : Parts} {s t : Arena} {rails after : List Rails} (gate : ℕ) → KeepsNodes s t → AreSignalRails net s rails → IsLifted net s t rails after gate → AreSignalRails net t after
rails-set {net} {s} {t} {rails} {after} gate k is done =
    grind (arith, length-set rails (first_gate net + gate) done.made, All-set (AreRailsOf t) rails (first_gate net + gate) done.made done.proper (All-rails-kept k rails is.proper), All-rails-kept k rails is.proper)

-- a gate's place in the order
place_of : (net : Parts) (order : List ℕ) → IsGateOrder net order → (g : ℕ) → g < length net.gates → (place : ℕ) × (place < length order) × (slice_index order place ≡ g)
place_of net order is g within = let c = is.each g within in (c.0, c.1, get_or_default order c.0 0 g c.1 ∙ c.2)

-- a gate whose place has been passed is at the fixpoint
lifted-at : {net : Parts} {order : List ℕ} {a : Arena} {v : Vectors} {i : ℕ} {rails : List Rails} → AreLifted net order a v i rails → (g place : ℕ) → place < i → slice_index order place ≡ g →
    (bits : List Bool) → value_of a (rails_at rails (first_gate net + g)) bits ≡ value_in (fix_gates net (v bits)) g
lifted-at {net} {a = a} {v} {rails = rails} lifted g place earlier is bits = grind arith

-- ---- the next gate

module _ (net : Parts) (valid : IsNetlist net) (order : List ℕ) (ordered : IsGateOrder net order) (s : Arena) (rails : List Rails) (v : Vectors)
    (i n : ℕ) (inside : i < length order) (n_is : n ≡ slice_index order i) (before : AreLifted net order s v i rails) where
  within : n < length net.gates
  within = subst (λ m. m < length net.gates) (sym n_is) (ordered.within i inside)

  -- what a pin reads is at the fixpoint
  reads-pin : (bits : List Bool) (k : ℕ) (none : Sig) → k < length (gate_at net n).pins →
      value_of s (rails_of_pin rails (get_or (gate_at net n).pins k none)) bits ≡ wire (fix net (v bits)) (get_or (gate_at net n).pins k none)
  reads-pin bits k none less =
      let pin : Sig = get_or (gate_at net n).pins k none in
      let signal : pin.0 < count net = All-get_or (λ (g : Gate). All (IsSignal net) g.pins) net.gates n no_gate within valid.pins k none less in
      let width = before.vector bits in
      elim (cases_lt pin.0 (first_gate net)) [
        | inl low ↦
            before.given pin.0 bits low ∙ sym (get_or_append_left (v bits) (fix_gates net (v bits)) X pin.0 (omega (arith, low, width)))
        | inr high ↦
            let g : ℕ = gate_of net pin in
            let g_in : g < length net.gates = omega (arith, high, signal) in
            let fed : Feeds net g n = feeds_at net n k none within less high g_in in
            let at = place_of net order ordered g g_in in
            let earlier : at.0 < i = ordered.after at.0 i at.1 inside (subst (λ m. Feeds net m (slice_index order i)) (sym at.2) (subst (λ m. Feeds net g m) n_is fed)) in
            ap (λ m. value_of s (rails_at rails m) bits) (let e : pin.0 ≡ first_gate net + g = omega (arith, high) in e)
            ∙ lifted-at before g at.0 earlier at.2 bits
            ∙ sym (wire_of_gate (v bits) (fix_gates net (v bits)) (first_gate net) pin.0 width high)
      ]

  pins-fixed : (bits : List Bool) → map (λ pin. value_of s (rails_of_pin rails pin) bits) (gate_at net n).pins ≡ read_at_fix net (v bits) n
  pins-fixed bits = map_agree (λ pin. value_of s (rails_of_pin rails pin) bits) (wire (fix net (v bits))) (gate_at net n).pins (reads-pin bits)

  -- so its lift works with functions of the working list
  pub gate-bounded : {w : ℕ} → BoundsEach s.vars (IsGatePart net no_loops v) w → BoundsGate net s rails n w
  gate-bounded =
      bounds-lift net no_loops v s n within (map (rails_of_pin rails) (gate_at net n).pins) (λ bits. read_at_fix net (v bits) n)
      (length-map {B = Rails} (gate_at net n).pins (rails_of_pin rails))
      (λ bits. pins-values s (rails_of_pin rails) (gate_at net n).pins (map (rails_of_pin rails) (gate_at net n).pins) bits refl ∙ pins-fixed bits)
      (inr (record { plain = refl; is = λ bits. refl }))

  -- and when it is set, it is at the fixpoint too
  module _ (t : Arena) (keeps : KeepsNodes s t) (after : List Rails) (done : IsLifted net s t rails after n) where
    gate-fixed : (bits : List Bool) → value_of t done.made bits ≡ value_in (fix_gates net (v bits)) n
    gate-fixed bits = done.value bits ∙ ap (ext (gate_at net n).cover) (pins-fixed bits) ∙ sym (get_or-fix net (v bits) n within)

    room : first_gate net + n < length rails
    room = let w = before.wires.width in omega (arith, within, w)

    pub lifted-more : AreLifted net order t v (i + 1) after
    lifted-more =
        let stays = set-other rails after (first_gate net + n) done.made keeps before.wires.proper done.is in
        record {
          wires = rails-set n keeps before.wires done;
          vector = before.vector;
          given = λ m bits low. stays m bits (λ e. absurd (omega (arith, e, low))) ∙ before.given m bits low;
          gates = λ j bits less. elim (cases_lt j i) [
            | inl low ↦
                stays (first_gate net + slice_index order j) bits
                (λ e. let same : j ≡ i = ordered.once j i (omega (arith, low, inside)) inside (let f : slice_index order j ≡ n = omega (arith, e) in f ∙ n_is) in absurd (omega (arith, same, low)))
                ∙ before.gates j bits low
            | inr high ↦
                let here : i ≡ j = omega (arith, less, high) in
                let at : n ≡ slice_index order j = n_is ∙ ap (slice_index order) here in
                subst (λ m. value_of t (rails_at after (first_gate net + m)) bits ≡ value_in (fix_gates net (v bits)) m) at
                (set-same t rails after (first_gate net + n) done.made done.is room bits ∙ gate-fixed bits)
          ];
        }

-- ---- before the first gate

pub lifted-start : (net : Parts) (order : List ℕ) (a : Arena) (given rails : List Rails) → length given ≡ first_gate net → All (AreRailsOf a) given →
    rails ≡ given ++ replicate (length net.gates) unknown → AreLifted net order a (λ bits. values_of a given bits) 0 rails
lifted-start net order a given rails wide proper is = record {
  wires = record {
    width = ap length is ∙ length-append given (replicate (length net.gates) unknown) ∙ ap₂ (λ m n. m + n) wide (length-replicate {A = Rails} (length net.gates) unknown);
    proper = subst (All (AreRailsOf a)) (sym is) (All-append (AreRailsOf a) given (replicate (length net.gates) unknown) proper (All-replicate (AreRailsOf a) (length net.gates) unknown (unknown-rails a)));
  };
  vector = λ bits. length-values a given bits ∙ wide;
  given = λ s bits low.
      ap (λ (r : List Rails). value_of a (rails_at r s) bits) is
      ∙ ap (λ (r : Rails). value_of a r bits) (get_or_append_left given (replicate (length net.gates) unknown) unknown s (omega (arith, low, wide)))
      ∙ sym (get_or-map (λ (r : Rails). value_of a r bits) given s unknown X (omega (arith, low, wide)));
  gates = λ j bits less. absurd (omega (arith, less));
}

-- ---- and after the last

pub lifted-end : (net : Parts) (order : List ℕ) (a : Arena) (v : Vectors) (rails : List Rails) → IsGateOrder net order → AreLifted net order a v (length order) rails →
    (bits : List Bool) → values_of a rails bits ≡ fix net (v bits)
lifted-end net order a v rails ordered is =
    values-fixed net a v rails is.wires.width is.vector is.given
    (λ n bits less. let at = place_of net order ordered n less in lifted-at is n at.0 at.1 at.2 bits)
