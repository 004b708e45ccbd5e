-- A loop at its place among the blocks, and its cut wires.
use Rattle.std.proofs.Common.{◌≡◌, ◌≢◌, inl, inr, ℕ, ◌<◌, ◌≤◌, ◌+◌, ◌==◌, Bool, true, false, ◌&&◌, cond, List, [], ◌∷◌, ◌++◌, length, filter, take, get_or, Contains, suc, sym, ap, ap₂, subst, refl, ◌∙◌, arith, true≢false, append-nil}
use Rattle.std.specs.List.{All, range_with_len}
use Rattle.loop_simulation.proofs.Common.{cases_lt, and_parts, eq-eqb, length-map, take_all, All-push, All-weaker, Contains-get_or, Contains-append_left, Contains-push, Trit, bit, bits, Parts, fix_gates, home_of, Loops, is_cut, CutsAreFixed, cuts_of, first_gate, sweeps, value_in, map_agree, cut_values_agree, fixed_cuts_give_fix, gate_home, columns, AreCutPlacesBelow, LoopAt, IsLoopAt, gates_in, loops_in}
use Rattle.std.proofs.lemmas.List.{length_push}
use Rattle.std.proofs.lemmas.List.FromFn.{length-range_with_len}
use Rattle.std.proofs.lemmas.List.Elements.{filter_more}
use Rattle.cyc_base.proofs.ListLemmas.{Contains-filter, Contains-range, filter-no_longer}
use Rattle.cyc_base.proofs.TruthLemmas.{same_truth}
use Rattle.loops.specs.Cuts.{AreLoopsOf}
use Rattle.loops.specs.Orders.{AreGatesOfLoop}
use Rattle.loops.proofs.Reading.{Contains-filter_from, Contains-range_from}
use Rattle.loops.specs.Sweeps.{cuts}
use Rattle.loops.proofs.Sweeps.{few_sweeps_are_enough, still_is_fix}
use Rattle.loops.proofs.Told.{blocks_have_loops, blocks_tell_loops}

-- ---- the places of cut wires

pub places-cut : (cut : ℕ → Bool) (gates : List ℕ) (k : ℕ) (places : List ℕ) → k < length gates → cut (get_or gates k 0) ≡ true → AreCutPlacesBelow cut gates k places → AreCutPlacesBelow cut gates (k + 1) (places ++ k ∷ [])
places-cut cut gates k places less is h = record {
  within = All-push (λ i. i < k + 1) places k (All-weaker (λ i. i < k) (λ i. i < k + 1) (λ i l. omega (arith, l)) places h.within) (omega arith);
  are = All-push (λ i. cut (get_or gates i 0) ≡ true) places k h.are is;
  each = λ i low cut_i. elim (cases_lt i k) [
    | inl l ↦ Contains-append_left places (k ∷ []) i (h.each i l cut_i)
    | inr high ↦ (let e : k ≡ i = omega (arith, low, high) in subst (Contains (places ++ k ∷ [])) e (Contains-push places k))
  ];
  number = length_push places k ∙ ap (λ n. n + 1) h.number
      ∙ sym (ap length (filter_more cut gates k 0 less ∙ ap (λ b. filter cut (take k gates) ++ cond b (get_or gates k 0 ∷ []) []) is) ∙ length_push (filter cut (take k gates)) (get_or gates k 0));
}

pub places-uncut : (cut : ℕ → Bool) (gates : List ℕ) (k : ℕ) (places : List ℕ) → k < length gates → cut (get_or gates k 0) ≡ false → AreCutPlacesBelow cut gates k places → AreCutPlacesBelow cut gates (k + 1) places
places-uncut cut gates k places less isnt h = grind (arith, All-weaker, cases_lt, true≢false, filter_more cut gates k 0 less, append-nil (filter cut (take k gates)))

-- ---- the gates of a loop

-- tests that agree on a list keep the same of it
kept-agree : (p q : ℕ → Bool) (xs : List ℕ) → All (λ n. p n ≡ q n) xs → filter p xs ≡ filter q xs
kept-agree p q [] h = refl
kept-agree p q (x ∷ xs) h = ap₂ (λ (b : Bool) (ys : List ℕ). cond b (x ∷ ys) ys) (h 0 x (omega arith)) (kept-agree p q xs (λ k d less. h (suc k) d (omega (arith, less))))

kept-both : (p q : ℕ → Bool) (xs : List ℕ) → filter (λ n. p n && q n) xs ≡ filter q (filter p xs)
kept-both p q [] = refl
kept-both p q (x ∷ xs) = grind (arith, kept-both p q xs)

-- what is listed as a cut wire of a loop is one
pub cut-of : (net : Parts) (loops : Loops) (a j d : ℕ) → j < length (cuts_of net loops a) → (loops.same a (get_or (cuts_of net loops a) j d) ≡ true) × (loops.cut (get_or (cuts_of net loops a) j d) ≡ true)
cut-of net loops a j d low =
    let n : ℕ = get_or (cuts_of net loops a) j d in
    let kept = Contains-filter_from (λ g. loops.same a g && loops.cut g) (range_with_len 0 (length net.gates)) n (Contains-get_or (cuts_of net loops a) j d low) in
    and_parts (loops.same a n) (loops.cut n) kept.0

module _ (l : LoopAt) (is_loop : IsLoopAt l) where
  pub are-loops : AreLoopsOf l.net (loops_in l)
  are-loops = blocks_tell_loops l.net l.blocks l.cut is_loop.blocks is_loop.cut

  pub gate-fits : (a : ℕ) → Contains (gates_in l) a → a < length l.net.gates
  gate-fits a inside = (gate_home l.net l.blocks is_loop.blocks l.number a is_loop.number inside).0

  pub gates-fit : (gates : List ℕ) → gates ≡ gates_in l → All (λ n. n < length l.net.gates) gates
  gates-fit gates same k d low = gate-fits (get_or gates k d) (subst (λ (ns : List ℕ). Contains ns (get_or gates k d)) same (Contains-get_or gates k d low))

  -- the gates of the block are those of the loop of each of them
  pub of-loop : (a : ℕ) → Contains (gates_in l) a → AreGatesOfLoop (loops_in l) a (gates_in l)
  of-loop a inside = grind (arith, gate_home l.net l.blocks is_loop.blocks l.number a is_loop.number inside, blocks_have_loops l.net l.blocks l.cut is_loop.blocks a)

  -- which gates are in it
  pub same-home : (a : ℕ) → Contains (gates_in l) a → (n : ℕ) → n < length l.net.gates → (loops_in l).same a n ≡ (home_of l.blocks n == l.number)
  same-home a inside n low =
      same_truth ((loops_in l).same a n) (home_of l.blocks n == l.number)
      (λ s. eq-eqb (home_of l.blocks n) l.number (gate_home l.net l.blocks is_loop.blocks l.number n is_loop.number ((of-loop a inside).0 n s)).1)
      (λ e. (of-loop a inside).1 n
      (subst (λ (ns : List ℕ). Contains ns n) (sym (is_loop.blocks.gates l.number is_loop.number))
      (Contains-filter (λ g. home_of l.blocks g == l.number) (range_with_len 0 (length l.blocks.home)) n e (Contains-range (length l.blocks.home) n (let h = is_loop.blocks.homes in omega (arith, low, h))))))

  -- the cut wires of the loop
  cuts-number : (a : ℕ) → Contains (gates_in l) a → length (cuts_of l.net (loops_in l) a) ≡ length (filter (is_cut l.cut.wires) (gates_in l))
  cuts-number a inside =
      ap length
      (kept-both ((loops_in l).same a) (is_cut l.cut.wires) (range_with_len 0 (length l.net.gates))
      ∙ ap (filter (is_cut l.cut.wires))
      (kept-agree ((loops_in l).same a) (λ n. home_of l.blocks n == l.number) (range_with_len 0 (length l.net.gates))
      (λ j d low. same-home a inside (get_or (range_with_len 0 (length l.net.gates)) j d) (Contains-range_from (length l.net.gates) (get_or (range_with_len 0 (length l.net.gates)) j d) (Contains-get_or (range_with_len 0 (length l.net.gates)) j d low)))
      ∙ ap (λ (n : ℕ). filter (λ g. home_of l.blocks g == l.number) (range_with_len 0 n)) (sym is_loop.blocks.homes)
      ∙ sym (is_loop.blocks.gates l.number is_loop.number)))

  count-is : length l.cuts ≡ length (filter (is_cut l.cut.wires) (gates_in l))
  count-is = is_loop.cuts.number ∙ ap (λ (gs : List ℕ). length (filter (is_cut l.cut.wires) gs)) (take_all (length (gates_in l)) (gates_in l) (omega arith))

  -- as many sweeps as cut wires are enough
  pub cuts-enough : (v : List Bool) → length v ≡ columns l.net → (a : ℕ) → Contains (gates_in l) a → CutsAreFixed l.net (loops_in l) (bits v) a (length l.cuts)
  cuts-enough v wide a inside =
      subst (λ (n : ℕ). CutsAreFixed l.net (loops_in l) (bits v) a n) (cuts-number a inside ∙ sym count-is)
      (few_sweeps_are_enough l.net (loops_in l) are-loops a (bits v) (length-map v bit ∙ wide))

  pub cuts_fit : length l.cuts ≤ 4294967295
  cuts_fit = grind (arith, count-is, filter-no_longer (is_cut l.cut.wires) (gates_in l), filter-no_longer, length-range_with_len 0 (length l.blocks.home))

-- ---- whether a loop is at the fixpoint

module _ (l : LoopAt) (is_loop : IsLoopAt l) (v : List Trit) (wide : length v ≡ first_gate l.net) (k : ℕ) where
  -- where a sweep changes no cut wire, it was
  pub unmoved-fixed : ((n : ℕ) → Contains (gates_in l) n → is_cut l.cut.wires n ≡ true → value_in (sweeps l.net (loops_in l) v (suc k)) n ≡ value_in (sweeps l.net (loops_in l) v k) n) →
      (a : ℕ) → Contains (gates_in l) a → CutsAreFixed l.net (loops_in l) v a k
  unmoved-fixed same a inside =
      map_agree (value_in (sweeps l.net (loops_in l) v k)) (value_in (fix_gates l.net v)) (cuts_of l.net (loops_in l) a)
      (λ j d low. sym (still-at j d low) ∙ still_is_fix l.net (loops_in l) (are-loops l is_loop) v wide a k still (get_or (cuts_of l.net (loops_in l) a) j d) (cut-of l.net (loops_in l) a j d low).0)
    where
      still-at : (j d : ℕ) → j < length (cuts_of l.net (loops_in l) a) →
          value_in (sweeps l.net (loops_in l) v (suc k)) (get_or (cuts_of l.net (loops_in l) a) j d) ≡ value_in (sweeps l.net (loops_in l) v k) (get_or (cuts_of l.net (loops_in l) a) j d)
      still-at j d low = grind (arith, cut-of l.net (loops_in l) a j d low, of-loop l is_loop a inside)

      still : cuts l.net (loops_in l) v a (suc k) ≡ cuts l.net (loops_in l) v a k
      still = map_agree (value_in (sweeps l.net (loops_in l) v (suc k))) (value_in (sweeps l.net (loops_in l) v k)) (cuts_of l.net (loops_in l) a) still-at

  -- and where it changes one, it wasn't
  pub moved-unfixed : (wire : ℕ) → Contains (gates_in l) wire → is_cut l.cut.wires wire ≡ true → value_in (sweeps l.net (loops_in l) v k) wire ≢ value_in (sweeps l.net (loops_in l) v (suc k)) wire →
      (a : ℕ) → Contains (gates_in l) a → ¬ CutsAreFixed l.net (loops_in l) v a k
  moved-unfixed wire there is moves a inside fixed =
      let same = (of-loop l is_loop a inside).1 wire there in
      let later = (fixed_cuts_give_fix l.net (loops_in l) (are-loops l is_loop) v wide a k fixed).0 in
      moves
      (cut_values_agree l.net (loops_in l) (are-loops l is_loop) a (sweeps l.net (loops_in l) v k) (fix_gates l.net v) fixed wire same is
      ∙ sym (cut_values_agree l.net (loops_in l) (are-loops l is_loop) a (sweeps l.net (loops_in l) v (suc k)) (fix_gates l.net v) later wire same is))
