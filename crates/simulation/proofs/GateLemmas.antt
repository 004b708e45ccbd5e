-- A gate outside loops is settled by its cover alone.
use Rattle.std.proofs.Common.{◌≡◌, ◌≢◌, inl, inr, ℕ, ◌+◌, ◌<◌, ◌≤◌, Bool, true, false, List, length, set, ap, sym, ◌∙◌, arith, Contains, true≢false}
use Rattle.simulation.proofs.Common.{cases_lt, cases_eq, get_or-set_same, get_or-set_other, length-set, Sig, Trit, X, Parts, IsNetlist, count, gate_at, gate_sig, wire, gate_value, fix, fix_gates, Blocks, AreBlocksOf, home_of, AreKept, AreSettled, vector_of}
use Rattle.loops.specs.Blocks.{block_at}
use Rattle.loops.proofs.Told.{other_blocks_are_single}
use Rattle.loops.proofs.Walks.{leads-step}
use Rattle.simulation.proofs.PinLemmas.{value_same, signal_cases, pin_within, pin-before, wire-input, fix-gate, length-vector, wire-vector}
use Rattle.simulation.proofs.BlockLemmas.{AreAtFix, pin_at_fix}
use Rattle.simulation.proofs.LoadLemmas.{vector-set}

-- settled blocks, said with the vector apart
pub at_fix : (net : Parts) (is : IsNetlist net) (blocks : Blocks) (are : AreBlocksOf net blocks) (values : List Trit) (place : ℕ) → AreSettled net blocks values place → AreAtFix net is blocks are (vector_of net values) values place
at_fix net is blocks are values place settled = grind (arith, wire-vector net values)

-- a gate of a later block changes none of them
pub settled_set : (net : Parts) (blocks : Blocks) (values : List Trit) (place g : ℕ) (x : Trit) → place ≤ home_of blocks g → AreSettled net blocks values place → AreSettled net blocks (set values (gate_sig net g).0 x) place
settled_set net blocks values place g x late settled = record {
  each = λ n l h.
      let other : (gate_sig net n).0 ≢ (gate_sig net g).0 =
      λ same. let e : n ≡ g = omega arith in let k : home_of blocks n ≡ home_of blocks g = ap (home_of blocks) e in omega arith in
      get_or-set_other values (gate_sig net g).0 (gate_sig net n).0 x X other
      ∙ settled.each n l h
      ∙ ap (λ (v : List Trit). wire (fix net v) (gate_sig net n)) (sym (vector-set net values g x));
}

module _ (net : Parts) (is : IsNetlist net) (blocks : Blocks) (are : AreBlocksOf net blocks) where
  -- a block that is settled is stable
  pub cleared : (values : List Trit) (due : List Bool) (place : ℕ) → AreKept net blocks values due → AreSettled net blocks values (place + 1) → AreKept net blocks values (set due place false)
  cleared values due place kept settled =
      let wide = length-vector net values kept.width in
      record {
        width = kept.width;
        flags = length-set due place false ∙ kept.flags;
        stable = λ q e.
            elim (cases_eq q place) [
              | inl here ↦ record {
                vector = vector_of net values;
                width = wide;
                gates = λ n l h. settled.each n l (omega arith);
                pins = λ n s l h c. pin_at_fix net is blocks are (vector_of net values) values (place + 1) wide (at_fix net is blocks are values (place + 1) settled) n s l (omega arith) c;
              }
              | inr other ↦ kept.stable q (sym (get_or-set_other due place q false true other) ∙ e)
            ];
      }

  module _ (values : List Trit) (place g : ℕ) (width : length values ≡ count net) (settled : AreSettled net blocks values place) (within : g < length net.gates) (home : home_of blocks g ≡ place) (plain : (block_at blocks place).looped ≡ false) where
    only : (n : ℕ) → n < length net.gates → home_of blocks n ≡ place → n ≡ g
    only n l h = grind (arith, other_blocks_are_single net blocks are n g l within)

    -- all its pins stand before it
    pin_settled : (s : Sig) → Contains (gate_at net g).pins s → wire values s ≡ wire (fix net (vector_of net values)) s
    pin_settled s c =
        let v = vector_of net values in
        grind (arith, signal_cases net s (pin_within net is g s within c), pin_within net is g s within c, wire-vector net values s, wire-input net v (fix_gates net v) s (length-vector net values width), length-vector net values width, pin-before net blocks are, cases_lt, only, leads-step net g g, true≢false)

    value_settled : gate_value values (gate_at net g) ≡ wire (fix net (vector_of net values)) (gate_sig net g)
    value_settled = grind (arith, value_same (gate_at net g) values (fix net (vector_of net values)) pin_settled, pin_settled, fix-gate net (vector_of net values) g (length-vector net values width) within, length-vector net values width)

    pub gate_settled : AreSettled net blocks (set values (gate_sig net g).0 (gate_value values (gate_at net g))) (place + 1)
    gate_settled =
        let x = gate_value values (gate_at net g) in
        record {
          each = λ n l h.
              let vector = ap (λ (v : List Trit). wire (fix net v) (gate_sig net n)) (sym (vector-set net values g x)) in
              elim (cases_eq n g) [
                | inl e ↦
                    let now : wire (set values (gate_sig net g).0 x) (gate_sig net g) ≡ x = get_or-set_same values (gate_sig net g).0 x X (omega arith) in
                    let there : wire (set values (gate_sig net g).0 x) (gate_sig net n) ≡ wire (fix net (vector_of net values)) (gate_sig net n) = rw e (now ∙ value_settled) in
                    there ∙ vector
                | inr ne ↦
                    let other : (gate_sig net n).0 ≢ (gate_sig net g).0 = λ same. ne (omega arith) in
                    let early : home_of blocks n < place =
                    elim (cases_lt (home_of blocks n) place) [
                      | inl early ↦ early
                      | inr late ↦ absurd (ne (only n l (omega arith)))
                    ] in
                    get_or-set_other values (gate_sig net g).0 (gate_sig net n).0 x X other ∙ settled.each n l early ∙ vector
              ];
        }
