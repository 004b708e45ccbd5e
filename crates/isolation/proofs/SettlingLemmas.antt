-- What the solution of a small netlist on rails shows.
use Rattle.std.proofs.Common.{◌≡◌, inl, inr, ℕ, zero, suc, ◌+◌, ◌-◌, ◌<◌, ◌≤◌, Bool, true, false, ◌&&◌, List, [], ◌∷◌, length, map, filter, get_or, refl, sym, ap, ◌∙◌, subst, arith, true≢false}
use Rattle.isolation.proofs.Common.{cases_Bool, and_parts, get_or-map, get_or-append_right, length-map, length-append, All, range_with_len, Node, Arena, den, Trit, X, bit, bits, Rails, value_of, values_of, Parts, IsNetlist, fix, fix_gates, Blocks, AreBlocksOf, block_at, home_of, Loops, AreLoopsOf, loops_of, first_gate, value_in, sweeps, CutsAreFixed, rails_under, Vectors, IsLoopNetlist, AreKnown, IsSolvedNetlist}
use Rattle.bdd_ops.specs.Least.{by_variable}
use Rattle.loops.specs.declared.structure.Cut.{Cut}
use Rattle.loops.specs.Cuts.{IsCutOf, loops_by, in_one_loop, is_cut}
use Rattle.loops.specs.Looped.{Looped, IsLooped}
use Rattle.loops.proofs.Sweeps.{length-fix, fixed_cuts_give_fix}
use Rattle.loops.proofs.Told.{blocks_tell_loops, told_parts}
use Rattle.fixpoint.specs.declared.solved.Solved.{Solved}
use Rattle.loops.specs.declared.structure.SweepCounts.{SweepCounts}
use Rattle.fixpoint.specs.Kept.{RootsStay}
use Rattle.fixpoint.specs.Laws.{SolutionsStay}
use Rattle.fixpoint.specs.Solved.{IsSolution}
use Rattle.fixpoint.specs.Counts.{CountSweeps, count_at}
use Rattle.fixpoint.proofs.ToldLemmas.{loops-are}
use Rattle.isolation.specs.Settled.{IsDetermined, SettleInSweeps}
use Rattle.isolation.specs.Settling.{IsSettledIn}

-- what a netlist with its loops hands out belongs together too
pub handed-out : (l : Looped) (net : Parts) (blocks : Blocks) (cut : Cut) → net ≡ l.net → blocks ≡ l.blocks → cut ≡ l.cut → IsLooped l → IsLooped (record { net = net; blocks = blocks; cut = cut })
handed-out l net blocks cut n b c is = grind arith

module _ (net : Parts) (blocks : Blocks) (cut : Cut) (are : AreBlocksOf net blocks) (cut_is : IsCutOf net cut) (v : Vectors) (layout : List ℕ) (laid : (u : List Bool) → length u ≡ first_gate net → v (by_variable layout u) ≡ bits u) where
  -- where no rails are X, no gate is
  pub determined-is : (a : Arena) (solved : Solved) → IsSolution net blocks cut a v solved → AreKnown a (map (rails_under a) solved.rails) → IsDetermined net
  determined-is a solved is known u wide n less x =
      let w : List Bool = by_variable layout u in
      let rails : List Rails = map (rails_under a) solved.rails in
      let all : values_of a rails w ≡ fix net (bits u) = is.values w ∙ ap (fix net) (laid u wide) in
      let l1 = length-map rails (λ r. value_of a r w) in
      let l3 = length-map u bit in
      let none : Rails = record { one = record { number = 0 }; zero = record { number = 0 } } in
      let inside : first_gate net + n < length rails = omega (arith, ap length all, l1, length-append (bits u) (fix_gates net (bits u)), l3, length-fix net (loops_of net) (bits u)) in
      known (first_gate net + n) none inside w
      (sym (get_or-map (λ r. value_of a r w) rails (first_gate net + n) none X inside)
      ∙ ap (λ (xs : List Trit). get_or xs (first_gate net + n) X) all
      ∙ get_or-append_right (bits u) (fix_gates net (bits u)) (first_gate net) (first_gate net + n) X (l3 ∙ wide) (omega arith)
      ∙ ap (λ (k : ℕ). get_or (fix_gates net (bits u)) k X) (omega arith) ∙ x)

  -- cut wires that stand at the fixpoint stay there
  stay_fixed : (loops : Loops) → AreLoopsOf net loops → (u : List Bool) → length u ≡ first_gate net → (n k d : ℕ) → CutsAreFixed net loops (bits u) n k → CutsAreFixed net loops (bits u) n (d + k)
  stay_fixed loops is u wide n k zero h = subst (CutsAreFixed net loops (bits u) n) (omega arith) h
  stay_fixed loops is u wide n k (suc d) h =
      subst (CutsAreFixed net loops (bits u) n) (let e : suc (d + k) ≡ suc d + k = omega arith in e)
      (fixed_cuts_give_fix net loops is (bits u) (length-map u bit ∙ wide) n (d + k) (stay_fixed loops is u wide n k d h)).0

  -- a gate that is in no loop has no cut wires
  no_cuts : (n : ℕ) → (block_at blocks (home_of blocks n)).looped ≡ false → (xs : List ℕ) → filter (λ m. in_one_loop blocks n m && is_cut cut.wires m) xs ≡ []
  no_cuts n plain [] = refl
  no_cuts n plain (m ∷ xs) = grind (arith, cases_Bool (in_one_loop blocks n m && is_cut cut.wires m), true≢false, told_parts net blocks are n m, and_parts (in_one_loop blocks n m) (is_cut cut.wires m), no_cuts n plain xs)

  -- the greatest count is enough for each loop
  pub sweeps-are : (a : Arena) (counts : SweepCounts) (care : Node) (most : ℕ) → length counts.per_block ≡ length blocks.list → CountSweeps net blocks cut a v care counts → ((v : List Bool) → den a care v ≡ true) → All (λ n. n ≤ most) counts.per_block →
      (u : List Bool) → length u ≡ first_gate net → (n : ℕ) → n < length net.gates → CutsAreFixed net (loops_of net) (bits u) n most
  sweeps-are a counts care most width found everywhere greatest u wide n less =
      subst (λ (l : Loops). CutsAreFixed net l (bits u) n most) (loops-are net blocks cut are cut_is)
      (elim (cases_Bool (block_at blocks (home_of blocks n)).looped) [
        | inl loop ↦
            let one = found.least n less loop in
            let h = subst (λ (t : List Trit). CutsAreFixed net (loops_by blocks cut) t n (count_at counts (home_of blocks n))) (laid u wide) (one.enough (by_variable layout u) (everywhere (by_variable layout u))) in
            let small : count_at counts (home_of blocks n) ≤ most = greatest (home_of blocks n) 0 (omega (arith, are.home n less)) in
            subst (CutsAreFixed net (loops_by blocks cut) (bits u) n) (let e : (most - count_at counts (home_of blocks n)) + count_at counts (home_of blocks n) ≡ most = omega (arith, small) in e)
            (stay_fixed (loops_by blocks cut) (blocks_tell_loops net blocks cut are cut_is) u wide n (count_at counts (home_of blocks n)) (most - count_at counts (home_of blocks n)) h)
        | inr plain ↦
            ap (map (value_in (sweeps net (loops_by blocks cut) (bits u) most))) (no_cuts n plain (range_with_len 0 (length net.gates)))
            ∙ sym (ap (map (value_in (fix_gates net (bits u)))) (no_cuts n plain (range_with_len 0 (length net.gates))))
      ])

-- a netlist that is solved stays so
abbrev pub solved-stays : {s t : Arena} {blocks : Blocks} {solved : Solved} → SolutionsStay → RootsStay s t → IsSolvedNetlist s blocks solved → IsSolvedNetlist t blocks solved
solved-stays {s} {t} {blocks} {solved} stays roots is = record {
  net = is.net;
  cut = is.cut;
  points = is.points;
  valid = is.valid;
  some = is.some;
  vars = roots.vars ∙ is.vars;
  blocks_are = is.blocks_are;
  cut_is = is.cut_is;
  points_are = is.points_are;
  solution = stays is.net blocks is.cut s t is.points solved roots is.solution;
}

-- the loop in the whole netlist
pub settles-is : (net : Parts) (gates : List ℕ) (small : Parts) (k : ℕ) → IsNetlist small → IsLoopNetlist net gates small → IsSettledIn small k → SettleInSweeps net gates k
settles-is net gates small k valid is settled = record {
  alone = record { outside = is.outside; small = small; valid = valid; is = is.is; read = is.read; determined = settled.determined };
  sweeps = settled.sweeps;
}
