-- The netlist's own gates, by the table of the last copies.
use Rattle.std.proofs.Common.{◌≡◌, ℕ, ◌+◌, List, length, get_or, ap, sym, ◌∙◌, arith}
use Rattle.unroll.proofs.Common.{Sig, Parts, gate_at, signal, Loops, AreLoopsOf, gate_of, in_loop_of, first_gate, in_loop_from, same_within, shift, old_signal, copy_signal, kept_gate, IsOfLoops, kept_pin, at_table, copy_pin_by, range_with_len, get_or-range_with_len}
use Rattle.unroll.specs.Tables.{gate_by_tables, AreLast}
use Rattle.unroll.proofs.Numbered.{choice_of_two, moved_high}
use Rattle.unroll.proofs.Rounds.{has_same, many_of, self_of, map_same}

module _ (net : Parts) (loops : Loops) (m : ℕ → ℕ) (are : AreLoopsOf net loops) (of_loops : IsOfLoops loops m) (last own : List ℕ) (tables : AreLast net loops m last own) where
  pin_same : (n : ℕ) (s : Sig) → copy_pin_by net loops (shift net loops m) last own n s ≡ kept_pin net loops m n s
  pin_same n s =
      let h = gate_of net s in
      sym (choice_of_two (in_loop_of net loops n s) (loops.cut h) (copy_signal net loops m (m n) h) (old_signal net loops m s) (at_table last h) (at_table own h)
      (λ e.
      let p = in_loop_from net loops n s e in
      let many = has_same net loops m are of_loops n h p.1 ∙ many_of net loops m are of_loops n (self_of net loops m are of_loops n h p.1) in
      sym (tables.copies.each h (same_within net loops are n h p.1) ∙ ap (λ j. copy_signal net loops m j h) many))
      (λ e.
      let p = in_loop_from net loops n s e in
      let first = first_gate net + shift net loops m in
      let at = get_or-range_with_len first (length net.gates) h 0 (same_within net loops are n h p.1) in
      moved_high net (shift net loops m) s p.0
      ∙ ap signal (let e : s.0 + shift net loops m ≡ get_or (range_with_len first (length net.gates)) h 0 = omega arith in e)
      ∙ ap (λ t. at_table t h) (sym tables.itself)))

  pub kept_same : (by n : ℕ) → by ≡ shift net loops m → gate_by_tables net loops by last own (gate_at net n).name n ≡ kept_gate net loops m n
  kept_same by n up = grind (arith, map_same, pin_same)
