-- The loops of a netlist are told by its blocks, and their cut wires by its cut.
use Rattle.std.proofs.Common.{◌≡◌, ◌==◌, ℕ, zero, suc, ◌+◌, ◌<◌, ltb, Bool, true, false, cond, ◌&&◌, [], ◌∷◌, ◌++◌, length, filter, All, refl, sym, ap, ap₂, ◌∙◌, add-one, arith, true≢false}
use Rattle.loops.proofs.Common.{lt-ltb, AllByRecursion, range_with_len, same_truth, Parts, Block, Blocks, AreBlocksOf, block_at, home_of, in_one_loop, loops_of, loop_of, begins_with}
use Rattle.std.proofs.lemmas.List.Elements.{All-filter, All-from_recursion, filter-append}
use Rattle.cyc_base.proofs.ListLemmas.{range-suc}
use Rattle.loops.specs.Listed.{gate_numbers}
use Rattle.loops.proofs.Existence.{loops_exist}
use Rattle.loops.proofs.Told.{told_from, told_to}

-- numbers of a range that are kept by two tests which agree below a bound
pub kept_below : (p q : ℕ → Bool) (a n bound : ℕ) → a + n ≡ bound → ((k : ℕ) → k < bound → p k ≡ q k)
    → filter p (range_with_len a n) ≡ filter q (range_with_len a n)
kept_below p q a zero bound is agree = refl
kept_below p q a (suc n) bound is agree = grind (arith, kept_below p q (a + 1) n bound)

none_kept : (p : ℕ → Bool) (a n bound : ℕ) → a + n ≡ bound → ((k : ℕ) → k < bound → p k ≡ false) → filter p (range_with_len a n) ≡ []
none_kept p a zero bound is none = refl
none_kept p a (suc n) bound is none = grind (arith, none_kept p (a + 1) n bound)

module _ (net : Parts) (blocks : Blocks) (are : AreBlocksOf net blocks) where
  -- blocks tell which gates are in one loop
  same_told : (a b : ℕ) → (loops_of net).same a b ≡ in_one_loop blocks a b
  same_told a b = same_truth ((loops_of net).same a b) (in_one_loop blocks a b)
      (λ same. told_from net blocks are a b (((loops_exist net).same a b).0 same))
      (λ told. ((loops_exist net).same a b).1 (told_to net blocks are a b told))

  -- the gates of a loop are those of its block
  pub loop_is_block : (a : ℕ) → a < length net.gates → (block_at blocks (home_of blocks a)).looped ≡ true
      → loop_of net a ≡ (block_at blocks (home_of blocks a)).gates
  loop_is_block a inside looped =
      kept_below ((loops_of net).same a) (λ n. home_of blocks n == home_of blocks a) 0 (length net.gates) (length net.gates) (omega arith) agree
      ∙ ap (λ count. filter (λ n. home_of blocks n == home_of blocks a) (range_with_len 0 count)) (sym are.homes)
      ∙ sym (are.gates (home_of blocks a) (are.home a inside))
    where
      within : (k : ℕ) → k < length net.gates → ltb k (length blocks.home) ≡ true
      within k below = lt-ltb k (length blocks.home) (let homes = are.homes in omega (arith, below, homes))

      swapped : (x y : ℕ) → (x == y) ≡ (y == x)
      swapped x y = grind arith

      agree : (k : ℕ) → k < length net.gates → (loops_of net).same a k ≡ (home_of blocks k == home_of blocks a)
      agree k below =
          same_told a k
          ∙ ap₂ (λ s t. s && (t && ((block_at blocks (home_of blocks a)).looped && home_of blocks a == home_of blocks k))) (within a inside) (within k below)
          ∙ ap (λ t. t && home_of blocks a == home_of blocks k) looped
          ∙ swapped (home_of blocks a) (home_of blocks k)

  -- a gate whose block is no loop is in none
  pub no_loop : (a : ℕ) → (block_at blocks (home_of blocks a)).looped ≡ false → loop_of net a ≡ []
  no_loop a not = grind (arith, none_kept, same_told)

  -- whether a loop begins at a gate
  pub begins_in_loop : (a : ℕ) (block : Block) → a < length net.gates → block ≡ block_at blocks (home_of blocks a) → block.looped ≡ true
      → begins_with block.gates a ≡ begins_with (loop_of net a) a
  begins_in_loop a block inside is looped = grind (arith, loop_is_block)

  pub begins_no_loop : (a : ℕ) (block : Block) → block ≡ block_at blocks (home_of blocks a) → block.looped ≡ false → begins_with (loop_of net a) a ≡ false
  begins_no_loop a block is not = ap (λ gates. begins_with gates a) (no_loop a (sym (ap (λ (b : Block). b.looped) is) ∙ not))

  -- the loop that begins there
  pub loop_begun : (a : ℕ) → a < length net.gates → begins_with (loop_of net a) a ≡ true → (block_at blocks (home_of blocks a)).gates ≡ loop_of net a
  loop_begun a inside begun = grind (arith, loop_is_block, true≢false, no_loop)

-- numbers of a range are below its end
pub range_inside : (from n bound : ℕ) → from + n ≡ bound → AllByRecursion (λ k. k < bound) (range_with_len from n)
range_inside from zero bound is = tt
range_inside from (suc n) bound is = (omega (arith, is), range_inside (from + 1) n bound (omega (arith, is)))

-- the gates of a loop are gates
pub loop_gates_inside : (net : Parts) (a : ℕ) → All (λ n. n < length net.gates) (loop_of net a)
loop_gates_inside net a =
    All-filter ((loops_of net).same a) (λ n. n < length net.gates) (gate_numbers net)
    (All-from_recursion (λ n. n < length net.gates) (gate_numbers net) (range_inside 0 (length net.gates) (length net.gates) (omega arith)))

-- what is kept goes on by one gate
pub kept_more : (p : ℕ → Bool) (n : ℕ) → filter p (range_with_len 0 (n + 1)) ≡ filter p (range_with_len 0 n) ++ cond (p n) (n ∷ []) []
kept_more p n = grind (arith, add-one n, range-suc 0 n, filter-append p (range_with_len 0 n) (n ∷ []))
