-- Blocks that are settled one after another.
use Rattle.std.proofs.Common.{◌≡◌, ◌≢◌, inl, inr, ℕ, zero, suc, ◌+◌, ◌<◌, ◌==◌, Bool, true, false, cond, List, length, map, get_or, refl, ap, sym, ◌∙◌, subst, arith, Contains, eq-eqb}
use Rattle.simulation.proofs.Common.{cases_lt, cases_eq, eqb-true, Sig, Trit, X, Below, Parts, IsNetlist, gate_at, gate_sig, wire, gate_value, fix, fix_gates, Blocks, AreBlocksOf, home_of, first_gate}
use Rattle.std.proofs.lemmas.List.{get_or-replicate}
use Rattle.std.proofs.lemmas.List.FromFn.{get_or-map-range_with_len}
use Rattle.std.specs.List.{range_with_len}
use Rattle.cyc_base.proofs.OrderLemmas.{Below-refl, Below-trans, Below-antisym}
use Rattle.netlist.specs.Fixpoint.{wires, steps}
use Rattle.netlist.proofs.FixpointLemmas.{get_or-step}
use Rattle.simulation.specs.Stability.{IsAtFix, IsStable}
use Rattle.simulation.proofs.PinLemmas.{value_same, value_below, signal_cases, pin_within, wire-input, wire-gate, fix-gate, pin-before}

module _ (net : Parts) (is : IsNetlist net) (blocks : Blocks) (are : AreBlocksOf net blocks) where
  -- on the blocks before this place, each gate tells at least what its cover tells
  pub record IsClosed (v s : List Trit) (place : ℕ) : Type 0 where
    pub inputs : (i : Sig) → i.0 < first_gate net → wire s i ≡ get_or v i.0 X
    pub gates : (n : ℕ) → n < length net.gates → home_of blocks n < place → Below (gate_value s (gate_at net n)) (wire s (gate_sig net n))

  same_below : (a b : Trit) → a ≡ b → Below a b
  same_below a b e = subst (λ x. Below a x) e (Below-refl a)

  steps_below : (v s : List Trit) (place : ℕ) → length v ≡ first_gate net → IsClosed v s place → (k n : ℕ) → n < length net.gates → home_of blocks n < place → Below (get_or (steps net v k) n X) (wire s (gate_sig net n))
  steps_below v s place w closed zero n l h = rw (get_or-replicate (length net.gates) n X X l) tt
  steps_below v s place w closed (suc k) n l h =
      let st = steps net v k in
      let pins : (p : Sig) → Contains (gate_at net n).pins p → Below (wire (wires v st) p) (wire s p) =
      λ p c.
      elim (signal_cases net p (pin_within net is n p l c)) [
        | inl low ↦ same_below (wire (wires v st) p) (wire s p) (wire-input net v st p w low ∙ sym (closed.inputs p low))
        | inr g ↦
            let before = pin-before net blocks are g.number n p g.within l g.is c in
            let here = steps_below v s place w closed k g.number g.within (omega arith) in
            rw (g.is, wire-gate net v st g.number w) here
      ] in
      rw (get_or-step net v st n l)
      (Below-trans (gate_value (wires v st) (gate_at net n)) (gate_value s (gate_at net n)) (wire s (gate_sig net n))
      (value_below (gate_at net n) (wires v st) s pins) (closed.gates n l h))

  -- so the fixpoint is below such a state on these blocks
  pub fix_below : (v s : List Trit) (place : ℕ) → length v ≡ first_gate net → IsClosed v s place → (n : ℕ) → n < length net.gates → home_of blocks n < place → Below (wire (fix net v) (gate_sig net n)) (wire s (gate_sig net n))
  fix_below v s place w closed n l h =
      rw (wire-gate net v (fix_gates net v) n w) (steps_below v s place w closed (length net.gates) n l h)

  -- the blocks before a place have the values of the fixpoint of v, and so has what they read
  pub record AreAtFix (v values : List Trit) (place : ℕ) : Type 0 where
    pub inputs : (i : Sig) → i.0 < first_gate net → wire values i ≡ get_or v i.0 X
    pub gates : (n : ℕ) → n < length net.gates → home_of blocks n < place → IsAtFix net v values n

  pub pin_at_fix : (v values : List Trit) (place : ℕ) → length v ≡ first_gate net → AreAtFix v values place → (n : ℕ) (s : Sig) → n < length net.gates → home_of blocks n < place → Contains (gate_at net n).pins s → wire values s ≡ wire (fix net v) s
  pin_at_fix v values place w at n s l h c =
      elim (signal_cases net s (pin_within net is n s l c)) [
        | inl low ↦ at.inputs s low ∙ sym (wire-input net v (fix_gates net v) s w low)
        | inr g ↦
            let before = pin-before net blocks are g.number n s g.within l g.is c in
            rw g.is (at.gates g.number g.within (omega arith))
      ]

  -- there each gate has the value of its cover
  pub value_at_fix : (v values : List Trit) (place : ℕ) → length v ≡ first_gate net → AreAtFix v values place → (n : ℕ) → n < length net.gates → home_of blocks n < place → gate_value values (gate_at net n) ≡ wire values (gate_sig net n)
  value_at_fix v values place w at n l h =
      value_same (gate_at net n) values (fix net v) (λ s c. pin_at_fix v values place w at n s l h c)
      ∙ sym (fix-gate net v n w l)
      ∙ sym (at.gates n l h)

  -- one block more is settled, where its gates tell no more than the fixpoint and no less than their covers
  pub block_settled : (v values : List Trit) (place : ℕ) → length v ≡ first_gate net → AreAtFix v values place →
      ((n : ℕ) → n < length net.gates → home_of blocks n ≡ place → Below (wire values (gate_sig net n)) (wire (fix net v) (gate_sig net n))) →
      ((n : ℕ) → n < length net.gates → home_of blocks n ≡ place → Below (gate_value values (gate_at net n)) (wire values (gate_sig net n))) →
      AreAtFix v values (place + 1)
  block_settled v values place w at below closed =
      let all : IsClosed v values (place + 1) = record {
        inputs = at.inputs;
        gates = λ n l h.
            elim (cases_lt (home_of blocks n) place) [
              | inl earlier ↦
                  same_below (gate_value values (gate_at net n)) (wire values (gate_sig net n))
                  (value_at_fix v values place w at n l earlier)
              | inr late ↦ closed n l (omega arith)
            ];
      } in
      record {
        inputs = at.inputs;
        gates = λ n l h.
            elim (cases_lt (home_of blocks n) place) [
              | inl earlier ↦ at.gates n l earlier
              | inr late ↦
                  Below-antisym (wire values (gate_sig net n)) (wire (fix net v) (gate_sig net n))
                  (below n l (omega arith))
                  (fix_below v values (place + 1) w all n l h)
            ];
      }

  -- the fixpoint of w, with the block at a place from that of v
  overlay : List Trit → List Trit → ℕ → List Trit
  overlay v w place =
      map (λ n. cond (home_of blocks n == place) (get_or (fix_gates net v) n X) (get_or (fix_gates net w) n X)) (range_with_len 0 (length net.gates))

  overlay-at : (v w : List Trit) (place n : ℕ) → length w ≡ first_gate net → n < length net.gates → wire (wires w (overlay v w place)) (gate_sig net n) ≡ cond (home_of blocks n == place) (get_or (fix_gates net v) n X) (get_or (fix_gates net w) n X)
  unfolding overlay
  overlay-at v w place n width l =
      wire-gate net w (overlay v w place) n width
      ∙ get_or-map-range_with_len (λ n. cond (home_of blocks n == place) (get_or (fix_gates net v) n X) (get_or (fix_gates net w) n X)) 0 (length net.gates) n n X l (omega arith)

  not_equal : (a b : ℕ) → a ≢ b → (a == b) ≡ false
  not_equal a b ne = of (a == b) refl
    where
      of : (t : Bool) → (a == b) ≡ t → (a == b) ≡ false
      of true e = absurd (ne (eqb-true a b e))
      of false e = e

  overlay-inside : (v w : List Trit) (place n : ℕ) → length v ≡ first_gate net → length w ≡ first_gate net → n < length net.gates → home_of blocks n ≡ place → wire (wires w (overlay v w place)) (gate_sig net n) ≡ wire (fix net v) (gate_sig net n)
  overlay-inside v w place n wv ww l e =
      overlay-at v w place n ww l
      ∙ ap (λ t. cond t (get_or (fix_gates net v) n X) (get_or (fix_gates net w) n X)) (eq-eqb (home_of blocks n) place e)
      ∙ sym (wire-gate net v (fix_gates net v) n wv)

  overlay-outside : (v w : List Trit) (place n : ℕ) → length w ≡ first_gate net → n < length net.gates → home_of blocks n ≢ place → wire (wires w (overlay v w place)) (gate_sig net n) ≡ wire (fix net w) (gate_sig net n)
  overlay-outside v w place n ww l ne =
      overlay-at v w place n ww l
      ∙ ap (λ t. cond t (get_or (fix_gates net v) n X) (get_or (fix_gates net w) n X)) (not_equal (home_of blocks n) place ne)
      ∙ sym (wire-gate net w (fix_gates net w) n ww)

  -- a stable block is settled, where the blocks before it are
  module _ (v values : List Trit) (place : ℕ) (width : length v ≡ first_gate net) (at : AreAtFix v values place) (stable : IsStable net blocks values place) where
    w : List Trit
    w = stable.vector

    mixed : List Trit
    mixed = wires stable.vector (overlay v stable.vector place)

    -- in the block itself all pins are as at the fixpoint of v
    mixed-pin : (n : ℕ) (s : Sig) → n < length net.gates → home_of blocks n ≡ place → Contains (gate_at net n).pins s → wire mixed s ≡ wire (fix net v) s
    unfolding mixed
    mixed-pin n s l h c =
        elim (signal_cases net s (pin_within net is n s l c)) [
          | inl low ↦
              wire-input net stable.vector (overlay v stable.vector place) s stable.width low
              ∙ sym (wire-input net stable.vector (fix_gates net stable.vector) s stable.width low)
              ∙ sym (stable.pins n s l h c)
              ∙ at.inputs s low
              ∙ sym (wire-input net v (fix_gates net v) s width low)
          | inr g ↦
              let before = pin-before net blocks are g.number n s g.within l g.is c in
              elim (cases_eq (home_of blocks g.number) place) [
                | inl e ↦ rw g.is (overlay-inside v stable.vector place g.number width stable.width g.within e)
                | inr ne ↦
                    let pin : wire values s ≡ wire (fix net stable.vector) s = stable.pins n s l h c in
                    let here : wire values (gate_sig net g.number) ≡ wire (fix net stable.vector) (gate_sig net g.number) = rw g.is at pin in
                    rw g.is
                    (overlay-outside v stable.vector place g.number stable.width g.within ne
                    ∙ sym here
                    ∙ at.gates g.number g.within (omega (arith, ne)))
              ]
        ]

    -- before it they are as at the fixpoint of the other vector
    mixed-pin_before : (n : ℕ) (s : Sig) → n < length net.gates → home_of blocks n < place → Contains (gate_at net n).pins s → wire mixed s ≡ wire (fix net stable.vector) s
    unfolding mixed
    mixed-pin_before n s l h c =
        elim (signal_cases net s (pin_within net is n s l c)) [
          | inl low ↦
              wire-input net stable.vector (overlay v stable.vector place) s stable.width low
              ∙ sym (wire-input net stable.vector (fix_gates net stable.vector) s stable.width low)
          | inr g ↦
              let before = pin-before net blocks are g.number n s g.within l g.is c in
              let ne : home_of blocks g.number ≢ place = λ e. omega arith in
              rw g.is (overlay-outside v stable.vector place g.number stable.width g.within ne)
        ]

    mixed-closed : IsClosed stable.vector mixed (place + 1)
    unfolding mixed
    mixed-closed = record {
      inputs = λ i low. wire-input net stable.vector (overlay v stable.vector place) i stable.width low;
      gates = λ n l h.
          elim (cases_eq (home_of blocks n) place) [
            | inl e ↦
                same_below (gate_value mixed (gate_at net n)) (wire mixed (gate_sig net n))
                (value_same (gate_at net n) mixed (fix net v) (λ s c. mixed-pin n s l e c)
                ∙ sym (fix-gate net v n width l)
                ∙ sym (overlay-inside v stable.vector place n width stable.width l e))
            | inr ne ↦
                let earlier : home_of blocks n < place = omega (arith, ne) in
                same_below (gate_value mixed (gate_at net n)) (wire mixed (gate_sig net n))
                (value_same (gate_at net n) mixed (fix net stable.vector) (λ s c. mixed-pin_before n s l earlier c)
                ∙ sym (fix-gate net stable.vector n stable.width l)
                ∙ sym (overlay-outside v stable.vector place n stable.width l ne))
          ];
    }

    -- so the block tells no more than the fixpoint of v
    standing-below : (n : ℕ) → n < length net.gates → home_of blocks n ≡ place → Below (wire values (gate_sig net n)) (wire (fix net v) (gate_sig net n))
    unfolding mixed
    standing-below n l h =
        let low : Below (wire (fix net stable.vector) (gate_sig net n)) (wire mixed (gate_sig net n)) =
        fix_below stable.vector mixed (place + 1) stable.width mixed-closed n l (omega arith) in
        let up : wire mixed (gate_sig net n) ≡ wire (fix net v) (gate_sig net n) =
        overlay-inside v stable.vector place n width stable.width l h in
        let here : wire values (gate_sig net n) ≡ wire (fix net stable.vector) (gate_sig net n) = stable.gates n l h in
        subst (λ x. Below x (wire (fix net v) (gate_sig net n))) (sym here)
        (subst (λ x. Below (wire (fix net stable.vector) (gate_sig net n)) x) up low)

    -- and each gate of it has the value of its cover
    standing-value : (n : ℕ) → n < length net.gates → home_of blocks n ≡ place → gate_value values (gate_at net n) ≡ wire values (gate_sig net n)
    standing-value n l h =
        value_same (gate_at net n) values (fix net stable.vector) (λ s c. stable.pins n s l h c)
        ∙ sym (fix-gate net stable.vector n stable.width l)
        ∙ sym (stable.gates n l h)

    pub stable_settled : AreAtFix v values (place + 1)
    stable_settled =
        block_settled v values place width at standing-below
        (λ n l h. same_below (gate_value values (gate_at net n)) (wire values (gate_sig net n)) (standing-value n l h))
