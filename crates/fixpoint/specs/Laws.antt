-- What follows of a solution, and of working lists.
use Rattle.std.specs.Prelude.{◌≡◌, ◌<◌, ◌≤◌, ℕ, suc, ◌+◌, Bool, true, List, length}
use Rattle.bdd_store.specs.declared.node.Node.{Node}
use Rattle.bdd_store.specs.Arena.{Arena}
use Rattle.bdd_store.specs.Subfunctions.{prefixes}
use Rattle.dual_rail.specs.WorkingLists.{IsWide, is_bit}
use Rattle.netlist.specs.declared.parts.Parts.{Parts}
use Rattle.netlist.specs.Fixpoint.{fix}
use Rattle.netlist.specs.Netlists.{IsNetlist, count}
use Rattle.loops.specs.declared.structure.Blocks.{Blocks}
use Rattle.loops.specs.declared.structure.Cut.{Cut}
use Rattle.loops.specs.Blocks.{AreBlocksOf}
use Rattle.loops.specs.Cuts.{AreLoopsOf, IsCutOf, Loops}
use Rattle.loops.specs.Sweeps.{first_gate, value_in, sweeps, cuts_of}
use Rattle.fixpoint.specs.declared.solved.Solved.{Solved}
use Rattle.fixpoint.specs.Kept.{RootsStay}
use Rattle.fixpoint.specs.Solved.{Vectors, IsSolution}
use Rattle.fixpoint.specs.Counts.{AreLoopsToCount}
use Rattle.fixpoint.specs.Working.{IsGatePart, IsWorking, HasAlike}

-- the loops of a solution are such as can be counted, on each care set
abbrev pub SolutionsCount : Type 0
SolutionsCount = (net : Parts) (blocks : Blocks) (cut : Cut) (a : Arena) (v : Vectors) (solved : Solved) →
    IsNetlist net → AreBlocksOf net blocks → IsCutOf net cut → IsSolution net blocks cut a v solved →
    (care : Node) → AreLoopsToCount a blocks care solved

-- a solution stays one while roots stay
abbrev pub SolutionsStay : Type 0
SolutionsStay = (net : Parts) (blocks : Blocks) (cut : Cut) (old new : Arena) (v : Vectors) (solved : Solved) →
    RootsStay old new → IsSolution net blocks cut old v solved → IsSolution net blocks cut new v solved

-- each working list has a width
abbrev pub WorkingListsHaveWidths : Type 0
WorkingListsHaveWidths = (net : Parts) (loops : Loops) (v : Vectors) (vars : ℕ) →
    IsWide vars (IsWorking net loops v) (vars + 1 + length (prefixes vars))

-- where the fixpoint has a value at a signal is a function of the working list
abbrev pub FixIsWorking : Type 0
FixIsWorking = (net : Parts) (loops : Loops) → AreLoopsOf net loops →
    (v : Vectors) → ((bits : List Bool) → length (v bits) ≡ first_gate net) → (signal : ℕ) → signal < count net →
    (bit : Bool) → IsWorking net loops v (λ bits. is_bit bit (value_in (fix net (v bits)) signal))

-- and where a sweep sets a gate of a loop to a value
abbrev pub SweepsAreWorking : Type 0
SweepsAreWorking = (net : Parts) (loops : Loops) → AreLoopsOf net loops →
    (v : Vectors) (gate k : ℕ) → loops.same gate gate ≡ true → k ≤ length (cuts_of net loops gate) →
    (bit : Bool) → IsWorking net loops v (λ bits. is_bit bit (value_in (sweeps net loops (v bits) (suc k)) gate))

-- the functions of gates go by the vectors of all lists of so many bits
abbrev pub GatePartsAgree : Type 0
GatePartsAgree = (net : Parts) (loops : Loops) (vars : ℕ) (v u : Vectors) →
    ((bits : List Bool) → length bits ≡ vars → v bits ≡ u bits) →
    (g : List Bool → Bool) → IsGatePart net loops v g → HasAlike vars (IsGatePart net loops u) g
