-- The fixpoint of a netlist as rails that are kept, and the steps by which its loops came to it.
use Rattle.std.specs.Prelude.{◌≡◌, ◌<◌, ◌≤◌, ◌+◌, ◌-◌, ℕ, Bool, true, List, [], length, map, All, Contains, slice_index_or}
use Rattle.bdd_store.specs.Arena.{Arena}
use Rattle.cyc_base.specs.declared.trit.Trit.{Trit}
use Rattle.dual_rail.specs.declared.rail.Rails.{Rails}
use Rattle.dual_rail.specs.Rails.{AreRailsOf, values_of}
use Rattle.netlist.specs.declared.parts.Parts.{Parts}
use Rattle.netlist.specs.Fixpoint.{fix, fix_gates}
use Rattle.loops.specs.declared.structure.Blocks.{Blocks}
use Rattle.loops.specs.declared.structure.Cut.{Cut}
use Rattle.loops.specs.Blocks.{block_at}
use Rattle.loops.specs.Cuts.{loops_by}
use Rattle.loops.specs.Sweeps.{first_gate, cuts, cuts_of, cut_values}
use Rattle.fixpoint.specs.declared.kept.KeptRails.{KeptRails}
use Rattle.fixpoint.specs.declared.solved.LoopSteps.{LoopSteps}
use Rattle.fixpoint.specs.declared.solved.Solved.{Solved}
use Rattle.fixpoint.specs.declared.solved.SweptLoop.{SweptLoop}
use Rattle.fixpoint.specs.Kept.{rails_under, values_under, AreKept}

-- a block that is a loop stands at this place
pub record IsLoopAt (blocks : Blocks) (b : ℕ) : Type 0 where
  pub within : b < length blocks.list
  pub looped : (block_at blocks b).looped ≡ true

-- the rails of the cut wires after k sweeps, and after the last
abbrev pub step_at : List (List Rails) → ℕ → List Rails
step_at steps k = slice_index_or steps k []

abbrev pub last_step : List (List Rails) → List Rails
last_step steps = step_at steps (length steps - 1)

-- a vector for each list of bits: values of the inputs and then of the latches
abbrev pub Vectors : Type 0
Vectors = List Bool → List Trit

-- kept rails of the inputs and then of the latches
pub record AreGiven (net : Parts) (a : Arena) (given : List KeptRails) : Type 0 where
  pub width : length given ≡ first_gate net
  pub keys : All (AreKept a) given
  pub proper : All (AreRailsOf a) (map (rails_under a) given)

-- The steps of one loop: at every vector, step k stands for the cut wires after k sweeps, and the last one for the
-- fixpoint.
pub record AreStepsOf (net : Parts) (blocks : Blocks) (cut : Cut) (a : Arena) (v : Vectors) (loop : SweptLoop) : Type 0 where
  pub block : IsLoopAt blocks loop.block
  pub wires : (gate : ℕ) → Contains (block_at blocks loop.block).gates gate → loop.cuts ≡ cuts_of net (loops_by blocks cut) gate
  pub rails : All (All (AreRailsOf a)) loop.steps
  pub each : (gate k : ℕ) (bits : List Bool) → Contains (block_at blocks loop.block).gates gate → k < length loop.steps →
      values_of a (step_at loop.steps k) bits ≡ cuts net (loops_by blocks cut) (v bits) gate k
  pub last : (gate : ℕ) (bits : List Bool) → Contains (block_at blocks loop.block).gates gate →
      values_of a (last_step loop.steps) bits ≡ cut_values net (loops_by blocks cut) gate (fix_gates net (v bits))
  pub some : 0 < length loop.steps
  pub few : length loop.steps ≤ length loop.cuts + 2

-- each loop among the blocks has just one entry
pub record HasEachLoopOnce (blocks : Blocks) (loops : List LoopSteps) : Type 0 where
  pub only : All (λ loop. IsLoopAt blocks loop.block) loops
  pub each : (b : ℕ) → IsLoopAt blocks b → Contains (map (λ (loop : LoopSteps). loop.block) loops) b
  pub once : (i j : ℕ) (none : LoopSteps) → i < length loops → j < length loops →
      (slice_index_or loops i none).block ≡ (slice_index_or loops j none).block → i ≡ j

-- the steps of a loop as they are kept
abbrev pub steps_under : Arena → LoopSteps → List (List Rails)
steps_under a loop = map (map (rails_under a)) loop.steps

abbrev pub loop_under : Arena → LoopSteps → SweptLoop
loop_under a loop = record { block = loop.block; cuts = loop.cuts; steps = steps_under a loop }

-- the steps of one loop are kept
pub record AreKeptSteps (net : Parts) (blocks : Blocks) (cut : Cut) (a : Arena) (v : Vectors) (loop : LoopSteps) : Type 0 where
  pub keys : All (All (AreKept a)) loop.steps
  pub steps : AreStepsOf net blocks cut a v (loop_under a loop)

-- all is kept: at every vector the rails of each signal stand for the fixpoint, and the steps are those of its loops
pub record IsSolution (net : Parts) (blocks : Blocks) (cut : Cut) (a : Arena) (v : Vectors) (solved : Solved) : Type 0 where
  pub vector : (bits : List Bool) → length (v bits) ≡ first_gate net
  pub keys : All (AreKept a) solved.rails
  pub rails : All (AreRailsOf a) (map (rails_under a) solved.rails)
  pub values : (bits : List Bool) → values_under a solved.rails bits ≡ fix net (v bits)
  pub loops : HasEachLoopOnce blocks solved.loops
  pub steps : All (AreKeptSteps net blocks cut a v) solved.loops
