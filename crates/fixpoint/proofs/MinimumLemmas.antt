-- The numbers that are counted on a solution are those of the sweeps that loops need.
use Rattle.std.proofs.Common.{◌≡◌, inl, inr, ℕ, ◌-◌, ◌<◌, ◌≤◌, Bool, true, false, List, [], length, map, get_or, sym, ap, ap₂, ◌∙◌, subst, arith, Contains}
use Rattle.fixpoint.proofs.Common.{cases_lt, get_or-map, length-map, ext_get_or, All, Node, Arena, den, Trit, X, Rails, AreRailsOf, trit_of, value_of, values_of, is_bit, Parts, Blocks, Cut, AreBlocksOf, block_at, home_of, IsCutOf, loops_by, first_gate, cuts_of, few_sweeps_are_enough, home_gate, blocks_tell_loops, LoopSteps, Solved, SweptLoop, Vectors, IsLoopAt, AreStepsOf, IsSolution, step_at, last_step, steps_under, loop_under, unknown, AgreeOn, IsLeastStep}
use Rattle.loops.specs.declared.structure.SweepCounts.{SweepCounts}
use Rattle.fixpoint.specs.Counts.{AreCountsOf, IsLeastSweeps, CountSweeps, count_at}
use Rattle.fixpoint.proofs.CutLemmas.{one-of, zero-of}

-- steps of one width that agree on care have the same values there, and the other way round
values-agree : (a : Arena) (care : Node) (xs ys : List Rails) (bits : List Bool) → length xs ≡ length ys → AgreeOn a care xs ys → den a care bits ≡ true → values_of a xs bits ≡ values_of a ys bits
values-agree a care xs ys bits len agree cared =
    let lx : length (values_of a xs bits) ≡ length xs = length-map {B = Trit} xs (λ r. value_of a r bits) in
    let ly : length (values_of a ys bits) ≡ length ys = length-map {B = Trit} ys (λ r. value_of a r bits) in
    ext_get_or X (values_of a xs bits) (values_of a ys bits) (omega (arith, lx, ly, len))
    (λ i less.
    let inside : i < length xs = omega (arith, less, lx) in
    let inside2 : i < length ys = omega (arith, inside, len) in
    let same = agree i unknown inside2 in
    get_or-map (λ (r : Rails). value_of a r bits) xs i unknown X inside
    ∙ ap₂ trit_of (same.one bits cared) (same.zero bits cared)
    ∙ sym (get_or-map (λ (r : Rails). value_of a r bits) ys i unknown X inside2))

agree-values : (a : Arena) (care : Node) (xs ys : List Rails) → All (AreRailsOf a) xs → All (AreRailsOf a) ys → length xs ≡ length ys → ((bits : List Bool) → den a care bits ≡ true → values_of a xs bits ≡ values_of a ys bits) → AgreeOn a care xs ys
agree-values a care xs ys xp yp len same place none less =
    let inside : place < length xs = omega (arith, less, len) in
    let r : Rails = get_or xs place none in
    let q : Rails = get_or ys place none in
    let value : (bits : List Bool) → den a care bits ≡ true → value_of a (get_or xs place none) bits ≡ value_of a (get_or ys place none) bits = λ bits cared.
    sym (get_or-map (λ (p : Rails). value_of a p bits) xs place none X inside)
    ∙ ap (λ (ts : List Trit). get_or ts place X) (same bits cared)
    ∙ get_or-map (λ (p : Rails). value_of a p bits) ys place none X less in
    record {
      one = λ bits cared. sym (one-of (den a r.one bits) (den a r.zero bits)) ∙ ap (is_bit true) (value bits cared) ∙ one-of (den a q.one bits) (den a q.zero bits);
      zero = λ bits cared. sym (zero-of (den a r.one bits) (den a r.zero bits) ((xp place none inside).proper bits)) ∙ ap (is_bit false) (value bits cared) ∙ zero-of (den a q.one bits) (den a q.zero bits) ((yp place none less).proper bits);
    }

module _ (net : Parts) (blocks : Blocks) (cut : Cut) (are : AreBlocksOf net blocks) (cut_is : IsCutOf net cut) (a : Arena) (v : Vectors) (width : (bits : List Bool) → length (v bits) ≡ first_gate net)
    (care : Node) (found : SweptLoop) (steps : AreStepsOf net blocks cut a v found) (gate : ℕ) (has : Contains (block_at blocks found.block).gates gate) where
  pub step-width : (k : ℕ) → k < length found.steps → length (step_at found.steps k) ≡ length (cuts_of net (loops_by blocks cut) gate)
  step-width k less =
      sym (length-map {B = Trit} (step_at found.steps k) (λ r. value_of a r []))
      ∙ ap length (steps.each gate k [] has less)
      ∙ length-map {B = Trit} (cuts_of net (loops_by blocks cut) gate) _

  last-less : length found.steps - 1 < length found.steps
  last-less = let some = steps.some in omega (arith, some)

  pub least-sweeps : (k : ℕ) → IsLeastStep a care found.steps k → IsLeastSweeps net (loops_by blocks cut) a v care gate k
  least-sweeps k least = record {
    enough = λ bits cared.
        sym (steps.each gate k bits has least.within)
        ∙ values-agree a care (step_at found.steps k) (last_step found.steps) bits (step-width k least.within ∙ sym (step-width (length found.steps - 1) last-less)) least.agrees cared
        ∙ steps.last gate bits has;
    least = λ j fixed. elim (cases_lt j (length found.steps)) [
      | inl inside ↦ least.least j inside
          (agree-values a care (step_at found.steps j) (last_step found.steps) (steps.rails j [] inside) (steps.rails (length found.steps - 1) [] last-less) (step-width j inside ∙ sym (step-width (length found.steps - 1) last-less))
          (λ bits cared. steps.each gate j bits has inside ∙ fixed bits cared ∙ sym (steps.last gate bits has)))
      | inr past ↦ let inside = least.within in omega (arith, past, inside)
    ];
  }

  pub few-sweeps : (k : ℕ) → IsLeastStep a care found.steps k → k ≤ length (cuts_of net (loops_by blocks cut) gate)
  few-sweeps k least =
      (least-sweeps k least).least (length (cuts_of net (loops_by blocks cut) gate))
      (λ bits cared. few_sweeps_are_enough net (loops_by blocks cut) (blocks_tell_loops net blocks cut are cut_is) gate (v bits) (width bits))

-- the entry of a gate's loop
record Entry (net : Parts) (blocks : Blocks) (cut : Cut) (a : Arena) (v : Vectors) (care : Node) (counts : SweepCounts) (gate : ℕ) : Type 0 where
  found : LoopSteps
  home : found.block ≡ home_of blocks gate
  steps : AreStepsOf net blocks cut a v (loop_under a found)
  has : Contains (block_at blocks found.block).gates gate
  least : IsLeastStep a care (steps_under a found) (count_at counts found.block)

-- on a solution
pub counts-are-sweeps : (net : Parts) (blocks : Blocks) (cut : Cut) → AreBlocksOf net blocks → IsCutOf net cut → (a : Arena) (v : Vectors) (care : Node) (solved : Solved) (counts : SweepCounts)
    → IsSolution net blocks cut a v solved → AreCountsOf a blocks care solved.loops counts → CountSweeps net blocks cut a v care counts
counts-are-sweeps net blocks cut are cut_is a v care solved counts solution is = record {
  least = λ gate less looped.
      let f = at gate less looped in
      subst (λ (b : ℕ). IsLeastSweeps net (loops_by blocks cut) a v care gate (count_at counts b)) f.home
      (least-sweeps net blocks cut are cut_is a v solution.vector care (loop_under a f.found) f.steps gate f.has (count_at counts f.found.block) f.least);
  few = λ gate less looped.
      let f = at gate less looped in
      subst (λ (b : ℕ). count_at counts b ≤ length (cuts_of net (loops_by blocks cut) gate)) f.home
      (few-sweeps net blocks cut are cut_is a v solution.vector care (loop_under a f.found) f.steps gate f.has (count_at counts f.found.block) f.least);
}
  where
    at : (gate : ℕ) → gate < length net.gates → (block_at blocks (home_of blocks gate)).looped ≡ true → Entry net blocks cut a v care counts gate
    at gate less looped =
        let loop : IsLoopAt blocks (home_of blocks gate) = record { within = are.home gate less; looped = looped } in
        let c = solution.loops.each (home_of blocks gate) loop in
        let none : LoopSteps = record { block = 0; cuts = []; steps = [] } in
        let size : length (map (λ (x : LoopSteps). x.block) solved.loops) ≡ length solved.loops = length-map {B = ℕ} solved.loops (λ (x : LoopSteps). x.block) in
        let inside : c.0 < length solved.loops = let l = c.1 in omega (arith, l, size) in
        let home : (get_or solved.loops c.0 none).block ≡ home_of blocks gate = sym (get_or-map (λ (x : LoopSteps). x.block) solved.loops c.0 none (home_of blocks gate) inside) ∙ c.2 in
        record {
          found = get_or solved.loops c.0 none;
          home = home;
          steps = (solution.steps c.0 none inside).steps;
          has = subst (λ (b : ℕ). Contains (block_at blocks b).gates gate) (sym home) (home_gate net blocks are gate less);
          least = is.loops c.0 none inside;
        }
