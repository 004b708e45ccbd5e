-- The least number of steps after which loops stand still on a care set.
use Rattle.std.specs.Prelude.{◌≡◌, ◌<◌, ◌≤◌, ◌+◌, ◌⊎◌, ◌&&◌, ℕ, Bool, true, false, List, length, All, Contains, slice_index_or}
use Rattle.std.specs.List.{sum_by}
use Rattle.bdd_store.specs.declared.node.Node.{Node}
use Rattle.bdd_store.specs.Arena.{Arena, den, IsNodeOf}
use Rattle.bdd_store.specs.Subfunctions.{nodes}
use Rattle.bdd_ops.specs.Operations.{xor, exclusive_or}
use Rattle.dual_rail.specs.declared.rail.Rails.{Rails}
use Rattle.netlist.specs.declared.parts.Parts.{Parts}
use Rattle.loops.specs.declared.structure.Blocks.{Blocks}
use Rattle.loops.specs.declared.structure.Cut.{Cut}
use Rattle.loops.specs.declared.structure.SweepCounts.{SweepCounts}
use Rattle.loops.specs.Blocks.{block_at, home_of}
use Rattle.loops.specs.Cuts.{Loops, loops_by}
use Rattle.loops.specs.Sweeps.{cuts_of, CutsAreFixed}
use Rattle.fixpoint.specs.declared.solved.LoopSteps.{LoopSteps}
use Rattle.fixpoint.specs.declared.solved.Solved.{Solved}
use Rattle.fixpoint.specs.Kept.{AreKept}
use Rattle.fixpoint.specs.Solved.{Vectors, step_at, last_step, steps_under, HasEachLoopOnce}

-- rails that are nodes of the diagrams
pub record AreNodes (a : Arena) (r : Rails) : Type 0 where
  pub one : IsNodeOf a r.one
  pub zero : IsNodeOf a r.zero

-- two nodes have one value at each vector of care
abbrev pub SameOn : Arena → Node → Node → Node → Type 0
SameOn a care m n = (bits : List Bool) → den a care bits ≡ true → den a m bits ≡ den a n bits

pub record SameRailsOn (a : Arena) (care : Node) (r s : Rails) : Type 0 where
  pub one : SameOn a care r.one s.one
  pub zero : SameOn a care r.zero s.zero

-- two steps stand for the same at each vector of care
abbrev pub AgreeOn : Arena → Node → List Rails → List Rails → Type 0
AgreeOn a care step last = (place : ℕ) (none : Rails) → place < length last →
    SameRailsOn a care (slice_index_or step place none) (slice_index_or last place none)

-- k is the least number of a step that agrees with the last one on care
pub record IsLeastStep (a : Arena) (care : Node) (steps : List (List Rails)) (k : ℕ) : Type 0 where
  pub within : k < length steps
  pub agrees : AgreeOn a care (step_at steps k) (last_step steps)
  pub least : (j : ℕ) → j < length steps → AgreeOn a care (step_at steps j) (last_step steps) → k ≤ j

-- What steps of a loop have to be, so that they can be counted: kept, as many rails as cut wires, at least one step
-- and at most two more than cut wires, and a least number that fits.
pub record AreCountable (a : Arena) (care : Node) (loop : LoopSteps) : Type 0 where
  pub keys : All (All (AreKept a)) loop.steps
  pub widths : All (λ step. length step ≡ length loop.cuts) loop.steps
  pub some : 0 < length loop.steps
  pub few : length loop.steps ≤ length loop.cuts + 2
  pub fits : (k : ℕ) → IsLeastStep a care (steps_under a loop) k → k ≤ 4294967295

-- the loops of these blocks, with at most as many cut wires together as there are gates
pub record AreLoopsToCount (a : Arena) (blocks : Blocks) (care : Node) (solved : Solved) : Type 0 where
  pub loops : HasEachLoopOnce blocks solved.loops
  pub countable : All (AreCountable a care) solved.loops
  pub cuts : sum_by (λ loop. length loop.cuts) solved.loops ≤ length blocks.home

-- the number of a block
abbrev pub count_at : SweepCounts → ℕ → ℕ
count_at counts b = slice_index_or counts.per_block b 0

-- for each loop its least number, and 0 for other blocks
pub record AreCountsOf (a : Arena) (blocks : Blocks) (care : Node) (found : List LoopSteps) (counts : SweepCounts) : Type 0 where
  pub width : length counts.per_block ≡ length blocks.list
  pub loops : All (λ loop. IsLeastStep a care (steps_under a loop) (count_at counts loop.block)) found
  pub others : (b : ℕ) → (block_at blocks b).looped ≡ false → count_at counts b ≡ 0

-- the least number of sweeps after which the cut wires of a gate's loop stand at the fixpoint at each vector of care
pub record IsLeastSweeps (net : Parts) (loops : Loops) (a : Arena) (v : Vectors) (care : Node) (gate k : ℕ) : Type 0 where
  pub enough : (bits : List Bool) → den a care bits ≡ true → CutsAreFixed net loops (v bits) gate k
  pub least : (j : ℕ) → ((bits : List Bool) → den a care bits ≡ true → CutsAreFixed net loops (v bits) gate j) → k ≤ j

-- the numbers are those of the sweeps that each loop needs, at most as many as it has cut wires
pub record CountSweeps (net : Parts) (blocks : Blocks) (cut : Cut) (a : Arena) (v : Vectors) (care : Node) (counts : SweepCounts) : Type 0 where
  pub least : (gate : ℕ) → gate < length net.gates → (block_at blocks (home_of blocks gate)).looped ≡ true →
      IsLeastSweeps net (loops_by blocks cut) a v care gate (count_at counts (home_of blocks gate))
  pub few : (gate : ℕ) → gate < length net.gates → (block_at blocks (home_of blocks gate)).looped ≡ true →
      count_at counts (home_of blocks gate) ≤ length (cuts_of net (loops_by blocks cut) gate)

-- the node is one of the rails of a step
pub record IsStepNode (steps : List (List Rails)) (n : Node) : Type 0 where
  pub step : List Rails
  pub among : Contains steps step
  pub rails : Rails
  pub within : Contains step rails
  pub is : (n ≡ rails.one) ⊎ (n ≡ rails.zero)

-- a function of the list that is compared: care's, or that of a rail of the steps
pub record IsCompared (a : Arena) (care : Node) (steps : List (List Rails)) (g : List Bool → Bool) : Type 0 where
  pub node : Node
  pub of : (node ≡ care) ⊎ IsStepNode steps node
  pub same : (bits : List Bool) → g bits ≡ den a node bits

-- and of all loops
pub record IsLoopNode (a : Arena) (loops : List LoopSteps) (n : Node) : Type 0 where
  pub loop : LoopSteps
  pub among : Contains loops loop
  pub node : IsStepNode (steps_under a loop) n

pub record IsComparedIn (a : Arena) (care : Node) (loops : List LoopSteps) (g : List Bool → Bool) : Type 0 where
  pub node : Node
  pub of : (node ≡ care) ⊎ IsLoopNode a loops node
  pub same : (bits : List Bool) → g bits ≡ den a node bits

-- where two nodes differ at a vector of care
abbrev pub difference : Arena → Node → Node → Node → List Bool → Bool
difference a care m n bits = den a care bits && xor (den a m bits) (den a n bits)

-- w bounds where they differ, at a vector of care and at any
abbrev pub BoundsDifference : Arena → Node → Node → Node → ℕ → Type 0
BoundsDifference a care m n w = (nodes a.vars (exclusive_or a m n) ≤ w) × (nodes a.vars (difference a care m n) ≤ w)
