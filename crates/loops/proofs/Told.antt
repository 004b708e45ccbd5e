-- What blocks and a cut tell of loops.
use Rattle.std.proofs.Common.{◌≡◌, ◌==◌, inr, ℕ, ◌<◌, true, List, length, refl, sym, subst, arith, Contains, true≢false}
use Rattle.loops.proofs.Common.{and_parts, cases_Bool, eqb-true, range_with_len, Parts, Blocks, AreBlocksOf, block_at, home_of, in_one_loop, SameLoop}
use Rattle.std.proofs.lemmas.Bool.{eq-eqb, ltb-true}
use Rattle.cyc_base.proofs.ListLemmas.{Contains-filter, Contains-range}
use Rattle.loops.specs.Blocks.{gates_at}
use Rattle.loops.specs.Laws.{BlocksTellLoops, BlocksHaveLoops, LoopFreeByBlocks, OtherBlocksAreSingle}
use Rattle.loops.proofs.Reading.{Contains-filter_from, Contains-range_from}
use Rattle.loops.proofs.Walks.{begins_at, leads-any, leads-trans}

module _ (net : Parts) (blocks : Blocks) (are : AreBlocksOf net blocks) where
  tell : (a b : ℕ) → a < length net.gates → b < length net.gates → (block_at blocks (home_of blocks a)).looped ≡ true → home_of blocks a ≡ home_of blocks b → in_one_loop blocks a b ≡ true
  tell a b al bl looped same = grind arith

  -- two gates that lead to each other are in one loop, and a walk leads from each back to it
  pub told_from : (a b : ℕ) → SameLoop net a b → in_one_loop blocks a b ≡ true
  told_from a b s =
      let al = begins_at net a b s.there.via s.there.walk in
      let bl = begins_at net b a s.back.via s.back.walk in
      tell a b al bl ((are.looped a al).1 (leads-trans net a b a s.there s.back)) ((are.same a b al bl).1 (inr s))

  -- what it takes to be told of one loop
  pub record Told (a b : ℕ) : Type 0 where
    pub first : a < length net.gates
    pub second : b < length net.gates
    pub looped : (block_at blocks (home_of blocks a)).looped ≡ true
    pub homes : home_of blocks a ≡ home_of blocks b

  pub told_parts : (a b : ℕ) → in_one_loop blocks a b ≡ true → Told a b
  told_parts a b e = grind (arith, and_parts, ltb-true, eqb-true)

  pub told_to : (a b : ℕ) → in_one_loop blocks a b ≡ true → SameLoop net a b
  told_to a b e = grind (arith, told_parts)

  -- the gates of the block at a place are those with this home
  pub gate_home : (b n : ℕ) → b < length blocks.list → Contains (block_at blocks b).gates n → (n < length net.gates) × (home_of blocks n ≡ b)
  gate_home b n l c =
      let homes = are.homes in
      let listed : Contains (gates_at blocks b) n = subst (λ (ns : List ℕ). Contains ns n) (are.gates b l) c in
      let p = Contains-filter_from (λ k. home_of blocks k == b) (range_with_len 0 (length blocks.home)) n listed in
      let r = Contains-range_from (length blocks.home) n p.1 in
      (omega arith, eqb-true (home_of blocks n) b p.0)

  pub home_gate : (n : ℕ) → n < length net.gates → Contains (block_at blocks (home_of blocks n)).gates n
  home_gate n l =
      let homes = are.homes in
      subst (λ (ns : List ℕ). Contains ns n) (sym (are.gates (home_of blocks n) (are.home n l)))
      (Contains-filter (λ k. home_of blocks k == home_of blocks n) (range_with_len 0 (length blocks.home)) n
      (eq-eqb (home_of blocks n) (home_of blocks n) refl) (Contains-range (length blocks.home) n (omega arith)))

  loop_gate : (a : ℕ) → a < length net.gates → (block_at blocks (home_of blocks a)).looped ≡ true → (n : ℕ) → Contains (block_at blocks (home_of blocks a)).gates n → in_one_loop blocks a n ≡ true
  loop_gate a l looped n c = grind (arith, gate_home (home_of blocks a) n (are.home a l) c, tell a n l)

pub blocks_tell_loops : BlocksTellLoops
blocks_tell_loops net blocks cut are is = record { same = λ a b. (told_to net blocks are a b, told_from net blocks are a b); cut = is.wires }

pub blocks_have_loops : BlocksHaveLoops
blocks_have_loops net blocks cut are a l looped = (
  λ n e.
      let t = told_parts net blocks are a n e in
      subst (λ (b : ℕ). Contains (block_at blocks b).gates n) (sym t.homes) (home_gate net blocks are n t.second),
  loop_gate net blocks are a l looped,
)

pub loop_free_by_blocks : LoopFreeByBlocks
loop_free_by_blocks net blocks are = grind (arith, cases_Bool, begins_at, true≢false, leads-any)

pub other_blocks_are_single : OtherBlocksAreSingle
other_blocks_are_single net blocks are a b al bl homes isnt = grind (arith, true≢false, leads-trans net a b a)
