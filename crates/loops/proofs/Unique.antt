-- A sweep is the one assignment, since no loop is left without the cut wires.
use Rattle.std.proofs.Common.{◌≡◌, inl, inr, ℕ, ◌<◌, ◌≤◌, false, List, [], length, get_or, ap, sym, ◌∙◌, arith}
use Rattle.loops.proofs.Common.{cases_lt, get_or_default, get_or_past, Sig, Trit, X, all_append, ext, Parts, gate_at, gate_sig, wire, fix, Feeds, Leads, Loops, AreLoopsOf, first_gate, gate_of, in_loop_of, pin_in, sweep}
use Rattle.std.proofs.lemmas.List.{ext_get_or}
use Rattle.loops.specs.Sweeps.{IsSweep}
use Rattle.loops.specs.Laws.{SweepIsTheOne}
use Rattle.loops.proofs.Walks.{walk-append, cuts_leave_no_loop, begins_within}
use Rattle.loops.proofs.Ancestors.{by_ancestors}
use Rattle.loops.proofs.Reading.{choice_same, in_loop_from, map_agree}
use Rattle.loops.proofs.Sweeps.{same_within, sweep_is_sweep}

-- a walk leads from an uncut gate to n through uncut gates
pub record Uncut (net : Parts) (loops : Loops) (x n : ℕ) : Type 0 where
  pub uncut : loops.cut x ≡ false
  pub leads : Leads net (λ g. loops.cut g ≡ false) x n

-- the pin of gate n at place k, read as a gate
pub feeds_at : (net : Parts) (n k : ℕ) (d : Sig) → n < length net.gates → k < length (gate_at net n).pins → first_gate net ≤ (get_or (gate_at net n).pins k d).0 → gate_of net (get_or (gate_at net n).pins k d) < length net.gates → Feeds net (gate_of net (get_or (gate_at net n).pins k d)) n
feeds_at net n k d less here low high =
    let r = get_or (gate_at net n).pins k d in
    grind (arith, get_or_default (gate_at net n).pins k (gate_sig net (gate_of net r)) d here)

module _ (net : Parts) (loops : Loops) (are : AreLoopsOf net loops) where
  pub uncut_within : (x n : ℕ) → Uncut net loops x n → x < length net.gates
  uncut_within x n r = begins_within net loops are x n r.leads.via r.leads.walk

  pub uncut-trans : (x y z : ℕ) → Uncut net loops x y → Uncut net loops y z → Uncut net loops x z
  uncut-trans x y z r q = grind (arith, all_append, walk-append net x y z r.leads.via q.leads.via r.leads.walk q.leads.walk)

  pub uncut-irreflexive : (x : ℕ) → Uncut net loops x x → ⊥
  uncut-irreflexive x r = cuts_leave_no_loop net loops are x r.leads.via r.leads.walk r.uncut r.leads.kind

  module _ (v c s t : List Trit) (one : IsSweep net loops v c s) (two : IsSweep net loops v c t) where
    same_step : (n : ℕ) → ((x : ℕ) → Uncut net loops x n → get_or s x X ≡ get_or t x X) → get_or s n X ≡ get_or t n X
    same_step n before =
        elim (cases_lt n (length net.gates)) [
          | inl l ↦
              one.each n l
              ∙ ap (ext (gate_at net n).cover)
              (map_agree (pin_in net loops v c s n) (pin_in net loops v c t n) (gate_at net n).pins
              (λ k d here.
              let r = get_or (gate_at net n).pins k d in
              choice_same (in_loop_of net loops n r) (loops.cut (gate_of net r)) (get_or c (gate_of net r) X) (get_or s (gate_of net r) X) (wire (fix net v) r) (get_or t (gate_of net r) X)
              (λ e free.
              let p = in_loop_from net loops n r e in
              before (gate_of net r) (record {
                uncut = free;
                leads = record { via = []; kind = tt; walk = feeds_at net n k d l here p.0 (same_within net loops are n (gate_of net r) p.1) };
              }))))
              ∙ sym (two.each n l)
          | inr g ↦
              let e = one.gates in
              let d = two.gates in
              get_or_past s n X (omega arith) ∙ sym (get_or_past t n X (omega arith))
        ]

    pub same_assignment : s ≡ t
    same_assignment =
        ext_get_or X s t (one.gates ∙ sym two.gates)
        (λ n l. by_ancestors (length net.gates) (Uncut net loops) uncut_within uncut-trans uncut-irreflexive (λ g. get_or s g X ≡ get_or t g X) same_step n)

pub sweep_is_the_one : SweepIsTheOne
sweep_is_the_one net loops are v c s = grind (arith, same_assignment net loops are v c s (sweep net loops v c), sweep_is_sweep net loops v c)
