-- The unrolled netlist's size.
use Rattle.std.proofs.Common.{◌≡◌, inl, inr, ℕ, zero, suc, ◌+◌, ◌<◌, ◌≤◌, min, leb, Bool, true, false, if◌then◌else◌, List, [], ◌∷◌, ◌++◌, length, map, filter, get_or, refl, ap₂, sym, ◌∙◌, arith}
use Rattle.unroll.proofs.Common.{cases_lt, le-leb, lt-leb, length-append, length-map, get_or-range_with_len, length-range_with_len, range_with_len, sum_by, Parts, Loops, copies_of, copies_upto, copies, most, has_loop, constants, shift, copy_gate, kept_gate, kept_latch, unrolled, unrolled_size, count}
use Rattle.std.proofs.lemmas.List.FromFn.{length-map-range_with_len}
use Rattle.std.proofs.lemmas.List.Sums.{sum_by-cons}
use Rattle.unroll.proofs.Places.{most-above, length-round}

-- one more number adds the gates that have a copy of it
count_more : (c : ℕ → ℕ) (k : ℕ) (xs : List ℕ) → sum_by (λ n. min (suc k) (c n)) xs ≡ sum_by (λ n. min k (c n)) xs + length (filter (λ n. leb (suc k) (c n)) xs)
count_more c k [] = refl
count_more c k (x ∷ xs) =
    let rest = count_more c k xs in
    let more = sum_by-cons (λ n. min (suc k) (c n)) x xs in
    let old = sum_by-cons (λ n. min k (c n)) x xs in
    elim (cases_lt k (c x)) [
      | inl has ↦ rw (le-leb (suc k) (c x) has) (omega arith)
      | inr none ↦ rw (lt-leb (suc k) (c x) (omega arith)) (omega arith)
    ]

none_at_first : (c : ℕ → ℕ) (xs : List ℕ) → sum_by (λ n. min 0 (c n)) xs ≡ 0
none_at_first c [] = refl
none_at_first c (x ∷ xs) =
    sum_by-cons (λ n. min 0 (c n)) x xs ∙ ap₂ (λ a b. a + b) (let e : min 0 (c x) ≡ 0 = omega arith in e) (none_at_first c xs)

all_at_last : (c : ℕ → ℕ) (k : ℕ) (xs : List ℕ) → ((i : ℕ) → i < length xs → c (get_or xs i 0) ≤ k) → sum_by (λ n. min k (c n)) xs ≡ sum_by c xs
all_at_last c k [] h = refl
all_at_last c k (x ∷ xs) h =
    let l = h zero (omega arith) in
    sum_by-cons (λ n. min k (c n)) x xs
    ∙ ap₂ (λ a b. a + b) (let e : min k (c x) ≡ c x = omega arith in e) (all_at_last c k xs (λ i l. h (suc i) (omega arith)))
    ∙ sym (sum_by-cons c x xs)

module _ (net : Parts) (loops : Loops) (m : ℕ → ℕ) where
  length-upto : (k : ℕ) → length (copies_upto net loops m k) ≡ sum_by (λ n. min k (copies_of loops.same m n)) (range_with_len 0 (length net.gates))
  length-upto zero = sym (none_at_first (copies_of loops.same m) (range_with_len 0 (length net.gates)))
  length-upto (suc k) =
      let before = length-upto k in
      let both = length-round net loops m k in
      let more = count_more (copies_of loops.same m) k (range_with_len 0 (length net.gates)) in
      omega arith

  pub length-copies : length (copies net loops m) ≡ sum_by (copies_of loops.same m) (range_with_len 0 (length net.gates))
  length-copies =
      length-upto (most loops.same m (length net.gates))
      ∙ all_at_last (copies_of loops.same m) (most loops.same m (length net.gates)) (range_with_len 0 (length net.gates))
      (λ i l.
      let e = length-range_with_len 0 (length net.gates) in
      let r = get_or-range_with_len 0 (length net.gates) i 0 (omega arith) in
      most-above loops.same m (length net.gates) (get_or (range_with_len 0 (length net.gates)) i 0) (omega arith))

  pub length-constants : length (constants net loops) ≡ (if has_loop net loops.same then 1 else 0)
  length-constants = by (has_loop net loops.same) refl
    where
      by : (b : Bool) → has_loop net loops.same ≡ b → length (constants net loops) ≡ (if has_loop net loops.same then 1 else 0)
      by true e = rw e refl
      by false e = rw e refl

  pub length-unrolled : length (unrolled net loops m).gates ≡ shift net loops m + length net.gates
  length-unrolled =
      let A = map (copy_gate net loops m) (copies net loops m) in
      let B = map (kept_gate net loops m) (range_with_len 0 (length net.gates)) in
      let one = length-append (constants net loops) (A ++ B) in
      let two = length-append A B in
      let three = length-map (copies net loops m) (copy_gate net loops m) in
      let four = length-map-range_with_len (kept_gate net loops m) 0 (length net.gates) in
      omega arith

  -- the size is that of the netlist and what stands before its gates
  pub size_is_shift : unrolled_size net loops.same m ≡ length net.gates + length net.latches + shift net loops m
  size_is_shift =
      let some = length-copies in
      let one = length-constants in
      omega arith

  pub size_is_size : length (unrolled net loops m).gates + length (unrolled net loops m).latches ≡ unrolled_size net loops.same m
  size_is_size =
      let all = length-unrolled in
      let latches = length-map net.latches (kept_latch net (shift net loops m)) in
      let is = size_is_shift in
      omega arith

  pub count_unrolled : count (unrolled net loops m) ≡ count net + shift net loops m
  count_unrolled =
      let all = length-unrolled in
      let latches = length-map net.latches (kept_latch net (shift net loops m)) in
      omega arith
