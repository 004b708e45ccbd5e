-- What the gates of the unrolled netlist are by their places.
use Rattle.std.proofs.Common.{◌≡◌, ℕ, ◌+◌, ◌<◌, List, ◌++◌, length, get_or, arith}
use Rattle.unroll.proofs.Common.{get_or_append_left, get_or-map, length-map, get_or-append-add, Parts, gate_at, Loops, Copy, copies, constants, copy_gate, kept_gate, unrolled, get_or-map-range_with_len}

-- an item of the last of three parts
third_part : {A : Type 0} (xs ys zs : List A) (k n : ℕ) (d : A) → length ys ≡ k → get_or (xs ++ (ys ++ zs)) (length xs + (k + n)) d ≡ get_or zs n d
third_part xs ys zs k n d e = grind (arith, get_or-append-add)

module _ (net : Parts) (loops : Loops) (m : ℕ → ℕ) where
  pub gate_at_copy : (p : ℕ) (copy d : Copy) → p < length (copies net loops m) → get_or (copies net loops m) p d ≡ copy → gate_at (unrolled net loops m) (length (constants net loops) + p) ≡ copy_gate net loops m copy
  gate_at_copy p copy d l e = grind (arith, length-map, get_or-append-add, get_or_append_left, get_or-map)

  pub gate_at_kept : (n : ℕ) → n < length net.gates → gate_at (unrolled net loops m) (length (constants net loops) + (length (copies net loops m) + n)) ≡ kept_gate net loops m n
  gate_at_kept n l = grind (arith, third_part, length-map, get_or-map-range_with_len)
