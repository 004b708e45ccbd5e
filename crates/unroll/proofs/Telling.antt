-- The unrolled netlist keeps the interface, and tells of outputs and latches what the netlist does.
use Rattle.std.proofs.Common.{◌≡◌, ℕ, zero, suc, ◌-◌, ◌<◌, ◌≤◌, List, [], length, map, get_or, sym, subst, arith}
use Rattle.unroll.proofs.Common.{cases_lt, get_or_append_left, length-map, get_or-append-add, Sig, Trit, map-map, Parts, wire, fix, gate_at, signal_names, gate_sig, Loops, gate_of, copy_of, copies_of, copies, place, shift, copy_signal, old_signal, copy_gate, kept_gate, kept_latch, unrolled}
use Rattle.std.proofs.lemmas.List.{get_or-append_right}
use Rattle.cyc_base.specs.Values.{EachBelow}
use Rattle.cyc_base.proofs.OrderLemmas.{EachBelow-map}
use Rattle.unroll.specs.Laws.{UnrolledHasItsSize, GatesStandAtTheirSignals, UnrolledIsNetlist, UnrolledTellsAsMuch, UnrolledKeepsInterface}
use Rattle.unroll.proofs.Above.{unrolled_is_above}
use Rattle.unroll.proofs.Measures.{size_is_size}
use Rattle.unroll.proofs.Numbered.{moved_low, moved_high}
use Rattle.unroll.proofs.Places.{copy_placed}
use Rattle.unroll.proofs.Rounds.{map_same}
use Rattle.unroll.proofs.Standing.{gate_at_copy, gate_at_kept}
use Rattle.unroll.proofs.Valid.{names_new, names_old, old_wide, unrolled_is_netlist}

pub unrolled_has_its_size : UnrolledHasItsSize
unrolled_has_its_size net loops are m of_loops = size_is_size net loops m

pub unrolled_is_a_netlist : UnrolledIsNetlist
unrolled_is_a_netlist net loops are m of_loops is inputs small = unrolled_is_netlist net loops m is are of_loops small inputs

copies_stand : (net : Parts) (loops : Loops) (m : ℕ → ℕ) (k n : ℕ) → n < length net.gates → 1 ≤ k → k ≤ copies_of loops.same m n → gate_at (unrolled net loops m) (gate_of net (copy_signal net loops m k n)) ≡ copy_gate net loops m (copy_of k n)
copies_stand net loops m zero n l one few = absurd (omega arith)
copies_stand net loops m (suc k) n l one few =
    let p = place (copies net loops m) (suc k) n in
    grind (arith, copy_placed net loops m k n l few, gate_at_copy net loops m p (copy_of (suc k) n) (copy_of 0 0))

kept_stands : (net : Parts) (loops : Loops) (m : ℕ → ℕ) (n : ℕ) → n < length net.gates → gate_at (unrolled net loops m) (gate_of net (old_signal net loops m (gate_sig net n))) ≡ kept_gate net loops m n
kept_stands net loops m n l =
    let s = gate_sig net n in
    grind (arith, moved_high net (shift net loops m) s, gate_at_kept net loops m n l)

pub gates_stand_at_their_signals : GatesStandAtTheirSignals
gates_stand_at_their_signals net loops are m of_loops = (copies_stand net loops m, kept_stands net loops m)

-- a signal keeps its name
name_kept : (net : Parts) (loops : Loops) (m : ℕ → ℕ) (s : Sig) → get_or (signal_names net) s.0 [] ≡ get_or (signal_names (unrolled net loops m)) (old_signal net loops m s).0 []
name_kept net loops m s = grind (arith, old_wide, length-map, cases_lt, names_old, get_or_append_left, names_new, moved_low, get_or-append_right, moved_high, get_or-append-add)

pub unrolled_keeps_interface : UnrolledKeepsInterface
unrolled_keeps_interface net loops are m of_loops = grind (arith, map-map, map_same, name_kept net loops m)

pub unrolled_tells_as_much : UnrolledTellsAsMuch
unrolled_tells_as_much net loops are m of_loops v enough =
    let other = unrolled net loops m in
    let above = unrolled_is_above net loops are m of_loops v enough in
    record {
      outputs = subst (λ (xs : List Trit). EachBelow (map (wire (fix net v)) net.outputs) xs)
          (sym (map-map (wire (fix other v)) (old_signal net loops m) net.outputs))
          (EachBelow-map (wire (fix net v)) (λ s. wire (fix other v) (old_signal net loops m s)) net.outputs above);
      loads = subst (λ (xs : List Trit). EachBelow (map (λ latch. wire (fix net v) latch.from) net.latches) xs)
          (sym (map-map (λ latch. wire (fix other v) latch.from) (kept_latch net (shift net loops m)) net.latches))
          (EachBelow-map (λ latch. wire (fix net v) latch.from) (λ latch. wire (fix other v) (old_signal net loops m latch.from)) net.latches (λ latch. above latch.from));
    }
