-- The loops of a solution can be counted, and a solution stays one while nodes are kept.
use Rattle.std.proofs.Common.{◌≡◌, ◌==◌, ℕ, zero, suc, ◌+◌, ◌<◌, ◌≤◌, Bool, true, false, ◌||◌, cond, if◌then◌else◌, List, [], ◌∷◌, ◌++◌, length, map, filter, get_or, refl, sym, ap, ◌∙◌, arith, Contains}
use Rattle.fixpoint.proofs.Common.{eqb-true, get_or_default, get_or-map, length-map, All, sum_by, range_with_len, Node, Arena, Rails, Parts, IsNetlist, Blocks, Cut, AreBlocksOf, block_at, home_of, IsCutOf, is_cut, loops_by, cuts_of, LoopSteps, Solved, rails_under, Vectors, AreStepsOf, AreKeptSteps, IsSolution, steps_under, loop_under, AreCountable, total}
use Rattle.std.proofs.lemmas.List.Sums.{sum_by-cons, sum_by-append, length-filter}
use Rattle.std.specs.List.{count_by}
use Rattle.std.proofs.lemmas.Bool.{or_from, ne_eqb}
use Rattle.cyc_base.proofs.ListLemmas.{range-suc, filter-no_longer}
use Rattle.fixpoint.specs.Counts.{AreLoopsToCount}
use Rattle.fixpoint.specs.Laws.{SolutionsCount, SolutionsStay}
use Rattle.fixpoint.proofs.KeptLemmas.{All-kept-stay, All-rails-stay, values-stay}
use Rattle.fixpoint.proofs.KeepingLemmas.{steps-stay}
use Rattle.fixpoint.proofs.BoundLemmas.{cuts-few}
use Rattle.fixpoint.proofs.CostLemmas.{if-at-most, total-split}
use Rattle.fixpoint.proofs.CutLemmas.{cuts-are}
use Rattle.fixpoint.proofs.MinimumLemmas.{step-width, few-sweeps}

-- ---- each gate is counted once

count-total : (p : ℕ → Bool) (n : ℕ) → count_by p (range_with_len 0 n) ≡ total p (λ m. 1) n
count-total p zero = refl
count-total p (suc n) =
    let at : 0 + n ≡ n = omega arith in
    let more : count_by p (range_with_len 0 (suc n)) ≡ count_by p (range_with_len 0 n ++ n ∷ []) = ap (count_by p) (range-suc 0 n ∙ ap (λ m. range_with_len 0 n ++ m ∷ []) at) in
    omega (arith, more, sum_by-append (λ m. cond (p m) 1 0) (range_with_len 0 n) (n ∷ []), count-total p n)

total-bound : (p : ℕ → Bool) (n : ℕ) → total p (λ m. 1) n ≤ n
total-bound p zero = omega arith
total-bound p (suc n) = omega (arith, total-bound p n, if-at-most (p n) 1)

cuts-total : (net : Parts) (blocks : Blocks) (cut : Cut) → AreBlocksOf net blocks → (b : ℕ) → b < length blocks.list → length (filter (is_cut cut.wires) (block_at blocks b).gates) ≤ total (λ n. home_of blocks n == b) (λ m. 1) (length blocks.home)
cuts-total net blocks cut are b inside = grind (arith, filter-no_longer (is_cut cut.wires) (block_at blocks b).gates, length-filter, count-total)

-- whether one of the loops has a gate
abbrev within : (ℕ → ℕ) → List LoopSteps → ℕ → Bool
within home [] n = false
within home (x ∷ xs) n = (home n == x.block) || within home xs n

apart-within : (home : ℕ → ℕ) (xs : List LoopSteps) (b n : ℕ) → All (λ y. ¬ (y.block ≡ b)) xs → home n ≡ b → within home xs n ≡ false
apart-within home [] b n apart at = refl
apart-within home (x ∷ xs) b n apart at =
    let here : ¬ (x.block ≡ b) = apart 0 x (omega arith) in
    or_from (home n == x.block) (within home xs n) (ne_eqb (home n) x.block (λ e. here (sym e ∙ at)))
    (apart-within home xs b n (λ k none less. apart (suc k) none (omega (arith, less))) at)

sum-within : (home : ℕ → ℕ) (G : ℕ) (xs : List LoopSteps) → All (λ x. length x.cuts ≤ total (λ n. home n == x.block) (λ m. 1) G) xs
    → ((i j : ℕ) (none : LoopSteps) → i < length xs → j < length xs → (get_or xs i none).block ≡ (get_or xs j none).block → i ≡ j)
    → sum_by (λ (x : LoopSteps). length x.cuts) xs ≤ total (within home xs) (λ m. 1) G
sum-within home G [] each once = omega arith
sum-within home G (x ∷ xs) each once =
    let here : length x.cuts ≤ total (λ n. home n == x.block) (λ m. 1) G = each 0 x (omega arith) in
    let rest = sum-within home G xs (λ k none less. each (suc k) none (omega (arith, less))) (λ i j none li lj same. let e = once (suc i) (suc j) none (omega (arith, li)) (omega (arith, lj)) same in omega (arith, e)) in
    let apart : All (λ y. ¬ (y.block ≡ x.block)) xs = λ k none less same. let e = once 0 (suc k) none (omega arith) (omega (arith, less)) (sym same) in omega (arith, e) in
    let split = total-split (λ n. home n == x.block) (within home xs) (λ n. (home n == x.block) || within home xs n) (λ m. 1) G
    (λ n. parts (home n == x.block) (within home xs n) (λ e. apart-within home xs x.block n apart (eqb-true (home n) x.block e))) in
    let sum = sum_by-cons (λ (y : LoopSteps). length y.cuts) x xs in
    omega (arith, here, rest, split, sum)
  where
    parts : (a b : Bool) → (a ≡ true → b ≡ false) → (if a then 1 else 0) + (if b then 1 else 0) ≡ (if a || b then 1 else 0)
    parts a b h = grind arith

-- ---- solutions

module _ (net : Parts) (blocks : Blocks) (cut : Cut) (a : Arena) (v : Vectors) (solved : Solved) (valid : IsNetlist net) (are : AreBlocksOf net blocks) (cut_is : IsCutOf net cut)
    (solution : IsSolution net blocks cut a v solved) where
  first-gate : (found : LoopSteps) → AreStepsOf net blocks cut a v (loop_under a found) → Contains (block_at blocks found.block).gates (get_or (block_at blocks found.block).gates 0 0)
  first-gate found steps =
      let some = are.filled found.block steps.block.within in
      (0, some, get_or_default (block_at blocks found.block).gates 0 (get_or (block_at blocks found.block).gates 0 0) 0 some)

  cut-count : (found : LoopSteps) → AreStepsOf net blocks cut a v (loop_under a found) → length found.cuts ≡ length (filter (is_cut cut.wires) (block_at blocks found.block).gates)
  cut-count found steps = grind (arith, first-gate found, cuts-are net blocks are cut found.block steps.block (get_or (block_at blocks found.block).gates 0 0))

  countable : (care : Node) (found : LoopSteps) → AreKeptSteps net blocks cut a v found → AreCountable a care found
  countable care found kept =
      let steps = kept.steps in
      let gate : ℕ = get_or (block_at blocks found.block).gates 0 0 in
      let has = first-gate found steps in
      let cuts : length found.cuts ≡ length (cuts_of net (loops_by blocks cut) gate) = ap length (steps.wires (get_or (block_at blocks found.block).gates 0 0) has) in
      let long : length (steps_under a found) ≡ length found.steps = length-map {B = List Rails} found.steps (map (rails_under a)) in
      let some = steps.some in
      let few = steps.few in
      record {
        keys = kept.keys;
        widths = λ j none less.
            sym (length-map {B = Rails} (get_or found.steps j none) (rails_under a))
            ∙ ap length (sym (get_or-map (map (rails_under a)) found.steps j none [] less))
            ∙ step-width net blocks cut are cut_is a v solution.vector care (loop_under a found) steps (get_or (block_at blocks found.block).gates 0 0) has j (omega (arith, less, long)) ∙ sym cuts;
        some = omega (arith, some, long);
        few = omega (arith, few, long);
        fits = λ k least.
            let most = few-sweeps net blocks cut are cut_is a v solution.vector care (loop_under a found) steps (get_or (block_at blocks found.block).gates 0 0) has k least in
            let small = cuts-few net blocks cut are found.block steps.block in
            let same = cut-count found steps in
            let fits = valid.fits in
            omega (arith, most, small, same, cuts, fits);
      }

  pub counted : (care : Node) → AreLoopsToCount a blocks care solved
  counted care = grind (arith, countable, countable care, sum-within (home_of blocks) (length blocks.home) solved.loops, cut-count, cuts-total net blocks cut are, total-bound (within (home_of blocks) solved.loops) (length blocks.home))

pub solutions-count : SolutionsCount
solutions-count net blocks cut a v solved valid are cut_is solution care = counted net blocks cut a v solved valid are cut_is solution care

pub solutions-stay : SolutionsStay
solutions-stay net blocks cut old new v solved stay solution = record {
  vector = solution.vector;
  keys = All-kept-stay stay solved.rails solution.keys;
  rails = All-rails-stay stay solved.rails solution.keys solution.rails;
  values = λ bits. ap (λ (v : Vectors). v bits) (values-stay stay solved.rails solution.keys) ∙ solution.values bits;
  loops = solution.loops;
  steps = λ k none less. steps-stay stay (get_or solved.loops k none) (solution.steps k none less);
}
