-- The laws of loops, cut wires and sweeps.
use Rattle.std.specs.Prelude.{◌≡◌, ◌≢◌, ◌↔◌, ◌⊎◌, ◌<◌, ◌≤◌, ℕ, suc, Bool, true, false, List, length}
use Rattle.std.specs.List.{AllByRecursion}
use Rattle.cyc_base.specs.declared.trit.Trit.{Trit}
use Rattle.cyc_base.specs.declared.trit.Trit.TheVariants.{X}
use Rattle.cyc_base.specs.Values.{EachBelow, bits}
use Rattle.netlist.specs.declared.parts.Parts.{Parts}
use Rattle.netlist.specs.Fixpoint.{fix_gates}
use Rattle.netlist.specs.Netlists.{IsNetlist}
use Rattle.netlist.specs.Walks.{Feeds, Walk, IsLoopFree}
use Rattle.loops.specs.declared.structure.Blocks.{Blocks}
use Rattle.loops.specs.declared.structure.Cut.{Cut}
use Rattle.loops.specs.Blocks.{AreBlocksOf, block_at, home_of}
use Rattle.loops.specs.Cuts.{AreLoopsOf, IsCutOf, Loops, loops_by}
use Rattle.loops.specs.Found.{loops_of}
use Rattle.loops.specs.Orders.{AreGatesOfLoop, IsOrderOf, sweep_in}
use Rattle.loops.specs.Sweeps.{CutsAreFixed, IsCountOfSweeps, IsSweep, cuts, cuts_of, first_gate, gate_in, sweep, sweeps, value_in}
use Rattle.loops.specs.Walks.{AnyGate, Leads, SameBlock, SameLoop}

-- without the cut wires no loop is left
abbrev pub CutsLeaveNoLoop : Type 0
CutsLeaveNoLoop = (net : Parts) (loops : Loops) → AreLoopsOf net loops → (a : ℕ) (via : List ℕ) →
    Walk net a via a → loops.cut a ≡ false → ¬ AllByRecursion (λ n. loops.cut n ≡ false) via

-- no cut wire can be left out: a walk leads from it back to it through gates of its loop that are no cut wires
abbrev pub EachCutIsNeeded : Type 0
EachCutIsNeeded = (net : Parts) (loops : Loops) → AreLoopsOf net loops → (n : ℕ) → loops.cut n ≡ true →
    Leads net (λ g. SameLoop net n g × (loops.cut g ≡ false)) n n

-- a netlist has one choice of loops and cut wires
abbrev pub LoopsAreUnique : Type 0
LoopsAreUnique = (net : Parts) (one two : Loops) → AreLoopsOf net one → AreLoopsOf net two →
    ((a b : ℕ) → one.same a b ≡ two.same a b) × ((n : ℕ) → one.cut n ≡ two.cut n)

-- each netlist has its loops and cut wires
abbrev pub LoopsExist : Type 0
LoopsExist = (net : Parts) → AreLoopsOf net (loops_of net)

-- a netlist's blocks and cut tell its loops and cut wires
abbrev pub BlocksTellLoops : Type 0
BlocksTellLoops = (net : Parts) (blocks : Blocks) (cut : Cut) → AreBlocksOf net blocks → IsCutOf net cut →
    AreLoopsOf net (loops_by blocks cut)

-- the gates of a block that is a loop are those of the loop of each of them
abbrev pub BlocksHaveLoops : Type 0
BlocksHaveLoops = (net : Parts) (blocks : Blocks) (cut : Cut) → AreBlocksOf net blocks → (a : ℕ) → a < length net.gates →
    (block_at blocks (home_of blocks a)).looped ≡ true →
    AreGatesOfLoop (loops_by blocks cut) a (block_at blocks (home_of blocks a)).gates

-- a block that is no loop has one gate
abbrev pub OtherBlocksAreSingle : Type 0
OtherBlocksAreSingle = (net : Parts) (blocks : Blocks) → AreBlocksOf net blocks → (a b : ℕ) →
    a < length net.gates → b < length net.gates → home_of blocks a ≡ home_of blocks b →
    (block_at blocks (home_of blocks a)).looped ≡ false → a ≡ b

-- the sweep is the one assignment in which each gate has the value of its cover
abbrev pub SweepIsTheOne : Type 0
SweepIsTheOne = (net : Parts) (loops : Loops) → AreLoopsOf net loops → (v c s : List Trit) →
    IsSweep net loops v c s ↔ (s ≡ sweep net loops v c)

-- each state of the sweeps is below the fixpoint
abbrev pub SweepsStayBelowFix : Type 0
SweepsStayBelowFix = (net : Parts) (loops : Loops) (v : List Trit) → length v ≡ first_gate net → (k : ℕ) →
    EachBelow (sweeps net loops v k) (fix_gates net v)

-- no sweep forgets
abbrev pub SweepsRise : Type 0
SweepsRise = (net : Parts) (loops : Loops) (v : List Trit) (k : ℕ) →
    EachBelow (sweeps net loops v k) (sweeps net loops v (suc k))

-- where a sweep leaves the cut wires of gate a's loop as they were, the loop stands at the fixpoint
abbrev pub StillIsFix : Type 0
StillIsFix = (net : Parts) (loops : Loops) → AreLoopsOf net loops →
    (v : List Trit) → length v ≡ first_gate net → (a k : ℕ) → cuts net loops v a (suc k) ≡ cuts net loops v a k →
    (n : ℕ) → loops.same a n ≡ true → value_in (sweeps net loops v (suc k)) n ≡ value_in (fix_gates net v) n

-- where the cut wires stand at the fixpoint, one more sweep leaves them there and sets the whole loop to it
abbrev pub FixedCutsGiveFix : Type 0
FixedCutsGiveFix = (net : Parts) (loops : Loops) → AreLoopsOf net loops →
    (v : List Trit) → length v ≡ first_gate net → (a k : ℕ) → CutsAreFixed net loops v a k →
    CutsAreFixed net loops v a (suc k)
    × ((n : ℕ) → loops.same a n ≡ true → value_in (sweeps net loops v (suc k)) n ≡ value_in (fix_gates net v) n)

-- a loop needs at most as many sweeps as it has cut wires
abbrev pub FewSweepsAreEnough : Type 0
FewSweepsAreEnough = (net : Parts) (loops : Loops) → AreLoopsOf net loops →
    (a : ℕ) (v : List Trit) → length v ≡ first_gate net → CutsAreFixed net loops v a (length (cuts_of net loops a))

-- and so on any care vectors of the netlist's width
abbrev pub CountIsSmall : Type 0
CountIsSmall = (net : Parts) (loops : Loops) → AreLoopsOf net loops →
    (care : List Trit → Bool) → ((v : List Trit) → care v ≡ true → length v ≡ first_gate net) →
    (a m : ℕ) → IsCountOfSweeps net loops care a m → m ≤ length (cuts_of net loops a)

-- the number of sweeps is one for each loop
abbrev pub CountIsOfLoops : Type 0
CountIsOfLoops = (net : Parts) (loops : Loops) → AreLoopsOf net loops → (care : List Trit → Bool) (m : ℕ → ℕ) →
    ((a : ℕ) → loops.same a a ≡ true → IsCountOfSweeps net loops care a (m a)) →
    (a b : ℕ) → loops.same a b ≡ true → m a ≡ m b

-- an assignment is the sweep on gate a's loop, where each gate of that loop has the value of its cover
abbrev pub SweepOfOneLoop : Type 0
SweepOfOneLoop = (net : Parts) (loops : Loops) → AreLoopsOf net loops → (v c s : List Trit) (a : ℕ) →
    ((n : ℕ) → loops.same a n ≡ true → value_in s n ≡ gate_in net loops v c s n) →
    (n : ℕ) → loops.same a n ≡ true → value_in s n ≡ value_in (sweep net loops v c) n

-- setting the gates of a loop in order, from any state, gives the sweep on that loop
abbrev pub OrderedSweepIsSweep : Type 0
OrderedSweepIsSweep = (net : Parts) (loops : Loops) → AreLoopsOf net loops →
    (a : ℕ) (gates order : List ℕ) → AreGatesOfLoop loops a gates → IsOrderOf net loops.cut gates order →
    (v c s : List Trit) → length s ≡ length net.gates → (n : ℕ) → loops.same a n ≡ true →
    value_in (sweep_in net loops v c order s) n ≡ value_in (sweep net loops v c) n

-- What a search shows that has seen all that it can: where `seen` has each gate of the kind that the start or
-- a seen gate feeds, and neither feeds the goal, no walk through gates of the kind leads there.
abbrev pub SearchIsComplete : Type 0
SearchIsComplete = (net : Parts) (kind seen : ℕ → Bool) (start goal : ℕ) →
    ((x y : ℕ) → (x ≡ start) ⊎ (seen x ≡ true) → Feeds net x y → kind y ≡ true → seen y ≡ true) →
    ((x : ℕ) → (x ≡ start) ⊎ (seen x ≡ true) → ¬ Feeds net x goal) →
    ¬ Leads net (λ g. kind g ≡ true) start goal

-- What numbers of blocks show: where no gate feeds one of a lower number, and of two gates of one number
-- each leads to the other, the gates of one number are one block.
abbrev pub BlocksByNumbers : Type 0
BlocksByNumbers = (net : Parts) (number : ℕ → ℕ) →
    ((a b : ℕ) → Feeds net a b → number a ≤ number b) →
    ((a b : ℕ) → a < length net.gates → b < length net.gates → number a ≡ number b → a ≢ b → Leads net AnyGate a b) →
    (a b : ℕ) → a < length net.gates → b < length net.gates → SameBlock net a b ↔ (number a ≡ number b)

-- what an order shows: where each gate has a higher number than those that feed it, there is no loop
abbrev pub LoopFreeByNumbers : Type 0
LoopFreeByNumbers = (net : Parts) (number : ℕ → ℕ) → ((a b : ℕ) → Feeds net a b → number a < number b) → IsLoopFree net

-- a netlist has no loop exactly where none of its blocks is one
abbrev pub LoopFreeByBlocks : Type 0
LoopFreeByBlocks = (net : Parts) (blocks : Blocks) → AreBlocksOf net blocks →
    IsLoopFree net ↔ ((n : ℕ) → n < length net.gates → (block_at blocks (home_of blocks n)).looped ≡ false)

-- without loops each gate is determined at each Boolean vector
abbrev pub LoopFreeIsDetermined : Type 0
LoopFreeIsDetermined = (net : Parts) → IsNetlist net → IsLoopFree net →
    (v : List Bool) → length v ≡ first_gate net → (n : ℕ) → n < length net.gates → value_in (fix_gates net (bits v)) n ≢ X
