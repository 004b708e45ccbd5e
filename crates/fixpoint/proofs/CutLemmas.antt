-- The cut wires of one loop, and that they stand still once they stand at the fixpoint.
use Rattle.std.proofs.Common.{◌≡◌, ◌==◌, ℕ, zero, suc, ◌+◌, ◌-◌, ◌<◌, ◌≤◌, Bool, true, false, ◌&&◌, List, [], ◌∷◌, length, filter, get_or, refl, sym, ap, ap₂, ◌∙◌, subst, arith, Contains}
use Rattle.fixpoint.proofs.Common.{eqb-true, eq-eqb, get_or_default, All, range_with_len, Node, Arena, den, IsLawful, Trit, Rails, AreRailsOf, trit_of, value_of, is_bit, Parts, fix_gates, Blocks, Cut, AreBlocksOf, block_at, home_of, no_block, Block, IsOrderOf, IsCutOf, is_cut, in_one_loop, loops_by, first_gate, value_in, cuts_of, sweeps, few_sweeps_are_enough, told_parts, gate_home, home_gate, blocks_tell_loops, IsLoopAt}
use Rattle.std.proofs.lemmas.List.Elements.{All-contains_itself}
use Rattle.cyc_base.proofs.ListLemmas.{Contains-filter, Contains-here, Contains-there}
use Rattle.cyc_base.proofs.TruthLemmas.{same_truth}
use Rattle.loops.specs.Sweeps.{CutsAreFixed}
use Rattle.loops.proofs.Reading.{Contains-filter_from, Contains-range_from}
use Rattle.loops.proofs.Sweeps.{cut_values_agree, fixed_cuts_give_fix}

-- ---- the list of cut wires

filter-twice : (p q r : ℕ → Bool) (xs : List ℕ) → ((n : ℕ) → Contains xs n → (q n && p n) ≡ r n) → filter p (filter q xs) ≡ filter r xs
filter-twice p q r [] same = refl
filter-twice p q r (x ∷ xs) same = by (q x) refl (p x) refl (sym (same x (Contains-here x xs))) (filter-twice p q r xs (λ n has. same n (Contains-there x xs n has)))
  where
    by : (a : Bool) → q x ≡ a → (b : Bool) → p x ≡ b → r x ≡ (q x && p x) → filter p (filter q xs) ≡ filter r xs → filter p (filter q (x ∷ xs)) ≡ filter r (x ∷ xs)
    by a is b is2 is3 again = grind arith

module _ (net : Parts) (blocks : Blocks) (are : AreBlocksOf net blocks) (cut : Cut) (b : ℕ) (loop : IsLoopAt blocks b) where
  -- one loop are the gates of a block
  pub one-block : (gate n : ℕ) → gate < length net.gates → home_of blocks gate ≡ b → n < length net.gates → home_of blocks n ≡ b → in_one_loop blocks gate n ≡ true
  one-block gate n gl gh nl nh = grind arith

  pub cuts-are : (gate : ℕ) → Contains (block_at blocks b).gates gate → filter (is_cut cut.wires) (block_at blocks b).gates ≡ cuts_of net (loops_by blocks cut) gate
  cuts-are gate has =
      let gate_is = gate_home net blocks are b gate loop.within has in
      ap (filter (is_cut cut.wires)) (are.gates b loop.within)
      ∙ filter-twice (is_cut cut.wires) (λ n. home_of blocks n == b) (λ n. in_one_loop blocks gate n && is_cut cut.wires n) (range_with_len 0 (length blocks.home))
      (λ n listed. ap (λ (x : Bool). x && is_cut cut.wires n) (same_truth (home_of blocks n == b) (in_one_loop blocks gate n)
      (λ e. one-block gate n gate_is.0 gate_is.1 (let l = Contains-range_from (length blocks.home) n listed in let h = are.homes in omega (arith, l, h)) (eqb-true (home_of blocks n) b e))
      (λ e. eq-eqb (home_of blocks n) b (sym (told_parts net blocks are gate n e).homes ∙ gate_is.1))))
      ∙ ap (λ (m : ℕ). filter (λ n. in_one_loop blocks gate n && is_cut cut.wires n) (range_with_len 0 m)) are.homes

  pub in-cuts : (n : ℕ) → n < length net.gates → home_of blocks n ≡ b → is_cut cut.wires n ≡ true → Contains (filter (is_cut cut.wires) (block_at blocks b).gates) n
  in-cuts n less home cut_wire = Contains-filter (is_cut cut.wires) (block_at blocks b).gates n cut_wire (subst (λ (p : ℕ). Contains (block_at blocks p).gates n) home (home_gate net blocks are n less))

  pub from-cuts : (n : ℕ) → Contains (filter (is_cut cut.wires) (block_at blocks b).gates) n → ((n < length net.gates) × (home_of blocks n ≡ b)) × (is_cut cut.wires n ≡ true)
  from-cuts n has = grind (arith, Contains-filter_from (is_cut cut.wires) (block_at blocks b).gates n has, gate_home net blocks are b n loop.within)

  -- from as many sweeps on as there are cut wires, they stand at the fixpoint
  module _ (cut_is : IsCutOf net cut) (v : List Trit) (width : length v ≡ first_gate net) where
    fixed-from : (gate m : ℕ) → CutsAreFixed net (loops_by blocks cut) v gate (m + length (cuts_of net (loops_by blocks cut) gate))
    fixed-from gate zero = grind (arith, few_sweeps_are_enough net (loops_by blocks cut) (blocks_tell_loops net blocks cut are cut_is) gate v width, blocks_tell_loops net blocks cut are cut_is)
    fixed-from gate (suc m) =
        let more : suc (m + length (cuts_of net (loops_by blocks cut) gate)) ≡ suc m + length (cuts_of net (loops_by blocks cut) gate) = omega arith in
        subst (CutsAreFixed net (loops_by blocks cut) v gate) more (fixed_cuts_give_fix net (loops_by blocks cut) (blocks_tell_loops net blocks cut are cut_is) v width gate (m + length (cuts_of net (loops_by blocks cut) gate)) (fixed-from gate m)).0

    pub fixed-at : (n k : ℕ) → Contains (filter (is_cut cut.wires) (block_at blocks b).gates) n → length (filter (is_cut cut.wires) (block_at blocks b).gates) ≤ k →
        value_in (sweeps net (loops_by blocks cut) v k) n ≡ value_in (fix_gates net v) n
    fixed-at n k has enough =
        let m : ℕ = k - length (cuts_of net (loops_by blocks cut) n) in
        grind (arith, from-cuts n has, home_gate net blocks are n, cuts-are n, cut_values_agree net (loops_by blocks cut) (blocks_tell_loops net blocks cut are cut_is) n (sweeps net (loops_by blocks cut) v k) (fix_gates net v), blocks_tell_loops net blocks cut are cut_is, fixed-from n m, one-block n n)

-- ---- equal values are equal nodes

pub one-of : (a b : Bool) → is_bit true (trit_of a b) ≡ a
one-of a b = grind arith

pub zero-of : (a b : Bool) → (a && b) ≡ false → is_bit false (trit_of a b) ≡ b
zero-of a b e = grind arith

pub rails-canonical : (a : Arena) → IsLawful a → (r q : Rails) → AreRailsOf a r → AreRailsOf a q → ((bits : List Bool) → value_of a r bits ≡ value_of a q bits) → r ≡ q
rails-canonical a lawful r q rp qp same =
    let ones : r.one ≡ q.one = lawful.canonical r.one q.one rp.one qp.one (λ bits len. sym (one-of (den a r.one bits) (den a r.zero bits)) ∙ ap (is_bit true) (same bits) ∙ one-of (den a q.one bits) (den a q.zero bits)) in
    let zeros : r.zero ≡ q.zero = lawful.canonical r.zero q.zero rp.zero qp.zero (λ bits len. sym (zero-of (den a r.one bits) (den a r.zero bits) (rp.proper bits)) ∙ ap (is_bit false) (same bits) ∙ zero-of (den a q.one bits) (den a q.zero bits) (qp.proper bits)) in
    ap₂ (λ (x y : Node). let z : Rails = record { one = x; zero = y } in z) ones zeros

-- ---- where gates, cut wires and orders lie

pub block-gates : (list items : List Block) (b : ℕ) (r : Block) (gates : List ℕ) → items ≡ list → b < length list → gates ≡ (get_or items b r).gates → gates ≡ (get_or list b no_block).gates
block-gates list items b r gates same inside is = is ∙ ap (λ (xs : List Block). (get_or xs b r).gates) same ∙ ap (λ (x : Block). x.gates) (get_or_default list b r no_block inside)

pub cuts-within : (net : Parts) (blocks : Blocks) → AreBlocksOf net blocks → (cut : Cut) (b : ℕ) → IsLoopAt blocks b → (cuts : List ℕ) → cuts ≡ filter (is_cut cut.wires) (block_at blocks b).gates → (list : List ℕ) → list ≡ cuts → All (λ n. n < length net.gates) list
cuts-within net blocks are cut b loop cuts is list same k d less = grind (arith, from-cuts net blocks are cut b loop (get_or list k d), All-contains_itself list k d less)

pub order-within : (net : Parts) (blocks : Blocks) → AreBlocksOf net blocks → (cut : Cut) (b : ℕ) → IsLoopAt blocks b → (order : List ℕ) → IsOrderOf net (is_cut cut.wires) (block_at blocks b).gates order → (list : List ℕ) → list ≡ order → All (λ n. n < length net.gates) list
order-within net blocks are cut b loop order follows list same k d less = grind (arith, gate_home net blocks are b (get_or list k d) loop.within, All-contains_itself list k d less)
