-- An unrolled netlist depends on the number of sweeps of gates in loops alone.
use Rattle.std.proofs.Common.{◌≡◌, ℕ, zero, suc, ◌+◌, Bool, true, false, ◌&&◌, if◌then◌else◌, nat_le, max, List, ◌++◌, length, map, filter, refl, ap, ap₂, ◌∙◌, arith}
use Rattle.std.proofs.Math.Path.{fun_ext}
use Rattle.std.proofs.lemmas.Bool.{and_parts}
use Rattle.std.specs.List.{range_with_len, sum_by}
use Rattle.cyc_base.specs.declared.sig.Sig.{Sig}
use Rattle.netlist.specs.declared.parts.Gate.{Gate}
use Rattle.netlist.specs.declared.parts.Parts.{Parts}
use Rattle.netlist.specs.Netlists.{gate_at}
use Rattle.loops.specs.Cuts.{Loops, AreLoopsOf}
use Rattle.loops.specs.Sweeps.{first_gate, gate_of, in_loop_of}
use Rattle.loops.proofs.Sweeps.{same-sym, same-trans}
use Rattle.unroll.specs.Marks.{mark, copy_name}
use Rattle.unroll.specs.Unrolled.{Copy, copies_of, copied, copy_of, copies_upto, copies, most, place, has_loop, constants, shift, moved, old_signal, copy_signal, redirected, copy_pin, kept_pin, before, copy_gate, kept_gate, kept_latch, unrolled, unrolled_size}

module _ (net : Parts) (loops : Loops) (are : AreLoopsOf net loops) (m o : ℕ → ℕ) (agree : (n : ℕ) → loops.same n n ≡ true → m n ≡ o n) where
  same_number : copies_of loops.same m ≡ copies_of loops.same o
  same_number = grind arith

  pub sizes_agree : unrolled_size net loops.same m ≡ unrolled_size net loops.same o
  sizes_agree = grind (arith, same_number)

  same_copied : (k : ℕ) → copied net loops m k ≡ copied net loops o k
  same_copied k = ap (λ (f : ℕ → ℕ). filter (λ n. nat_le k (f n)) (range_with_len 0 (length net.gates))) same_number

  same_upto : (k : ℕ) → copies_upto net loops m k ≡ copies_upto net loops o k
  same_upto zero = refl
  same_upto (suc k) = ap₂ (λ (early : List Copy) (late : List ℕ). early ++ map (copy_of (suc k)) late) (same_upto k) (same_copied (suc k))

  same_most : (n : ℕ) → most loops.same m n ≡ most loops.same o n
  same_most zero = refl
  same_most (suc n) = ap₂ max (same_most n) (ap (λ (f : ℕ → ℕ). f n) same_number)

  same_copies : copies net loops m ≡ copies net loops o
  same_copies = ap (copies_upto net loops m) (same_most (length net.gates)) ∙ same_upto (most loops.same o (length net.gates))

  same_shift : shift net loops m ≡ shift net loops o
  same_shift = ap (λ (all : List Copy). length (constants net loops) + length all) same_copies

  same_old : old_signal net loops m ≡ old_signal net loops o
  same_old = ap (moved net) same_shift

  same_signal : (k n : ℕ) → copy_signal net loops m k n ≡ copy_signal net loops o k n
  same_signal k n = grind (arith, same_copies)

  same_pin : (k n : ℕ) → copy_pin net loops m k n ≡ copy_pin net loops o k n
  same_pin k n =
      ap₂ (λ (cuts inner : ℕ → Sig). redirected net loops cuts inner (old_signal net loops m) n) (fun_ext (same_signal k)) (fun_ext (same_signal (suc k)))
      ∙ ap (λ (outer : Sig → Sig). redirected net loops (copy_signal net loops o k) (copy_signal net loops o (suc k)) outer n) same_old

  same_copy_gate : (copy : Copy) → copy_gate net loops m copy ≡ copy_gate net loops o copy
  same_copy_gate copy = grind (arith, same_pin (before copy.number) copy.gate)

  same_kept_pin : (n : ℕ) (s : Sig) → kept_pin net loops m n s ≡ kept_pin net loops o n s
  same_kept_pin n s = by (in_loop_of net loops n s && loops.cut (gate_of net s)) refl
    where
      looped : (in_loop_of net loops n s && loops.cut (gate_of net s)) ≡ true → loops.same n n ≡ true
      looped e =
          grind (arith, and_parts (in_loop_of net loops n s) (loops.cut (gate_of net s)) e, and_parts (nat_le (first_gate net) s.0) (loops.same n (gate_of net s)), same-trans net loops are n (gate_of net s) n, same-sym net loops are n (gate_of net s))

      by : (b : Bool) → (in_loop_of net loops n s && loops.cut (gate_of net s)) ≡ b → kept_pin net loops m n s ≡ kept_pin net loops o n s
      by true e =
          rw e (ap (λ (k : ℕ). copy_signal net loops m k (gate_of net s)) (agree n (looped e)) ∙ same_signal (o n) (gate_of net s))
      by false e = rw e (ap (λ (old : Sig → Sig). old s) same_old)

  same_kept_gate : (n : ℕ) → kept_gate net loops m n ≡ kept_gate net loops o n
  same_kept_gate n =
      ap (λ (pin : Sig → Sig). let gate : Gate = record { name = (gate_at net n).name; pins = map pin (gate_at net n).pins; cover = (gate_at net n).cover } in gate)
      (fun_ext (same_kept_pin n))

  -- an unrolled netlist by what stands before its own gates
  abbrev made : ℕ → (Sig → Sig) → List Gate → List Gate → Parts
  made by old before_own own = record {
    name = net.name;
    inputs = net.inputs;
    clock = net.clock;
    latches = map (kept_latch net by) net.latches;
    gates = constants net loops ++ (before_own ++ own);
    outputs = map old net.outputs;
  }

  same_copy_gates : map (copy_gate net loops m) (copies net loops m) ≡ map (copy_gate net loops o) (copies net loops o)
  same_copy_gates = ap₂ (λ (f : Copy → Gate) (all : List Copy). map f all) (fun_ext same_copy_gate) same_copies

  same_own : map (kept_gate net loops m) (range_with_len 0 (length net.gates)) ≡ map (kept_gate net loops o) (range_with_len 0 (length net.gates))
  same_own = ap (λ (f : ℕ → Gate). map f (range_with_len 0 (length net.gates))) (fun_ext same_kept_gate)

  pub netlists_agree : unrolled net loops m ≡ unrolled net loops o
  netlists_agree =
      ap₂ (λ (by : ℕ) (old : Sig → Sig). made by old (map (copy_gate net loops m) (copies net loops m)) (map (kept_gate net loops m) (range_with_len 0 (length net.gates)))) same_shift same_old
      ∙ ap₂ (made (shift net loops o) (old_signal net loops o)) same_copy_gates same_own
