-- The laws of unrolling.
use Rattle.std.specs.Prelude.{◌≡◌, ◌<◌, ◌≤◌, ◌+◌, ℕ, true, List, [], length, map, slice_index_or}
use Rattle.cyc_base.specs.declared.limits.TheConstants.{MAX_REWRITTEN_ITEMS}
use Rattle.cyc_base.specs.declared.sig.Sig.{Sig}
use Rattle.cyc_base.specs.declared.trit.Trit.{Trit}
use Rattle.cyc_base.specs.Values.{Below, EachBelow}
use Rattle.netlist.specs.declared.parts.Parts.{Parts}
use Rattle.netlist.specs.Fixpoint.{wire, fix, outs, next}
use Rattle.netlist.specs.Netlists.{gate_at, gate_sig, signal_names, IsNetlist, output_names}
use Rattle.netlist.specs.Walks.{IsLoopFree}
use Rattle.loops.specs.declared.structure.Blocks.{Blocks}
use Rattle.loops.specs.declared.structure.Cut.{Cut}
use Rattle.loops.specs.declared.structure.SweepCounts.{SweepCounts}
use Rattle.loops.specs.Blocks.{AreBlocksOf, block_at, home_of}
use Rattle.loops.specs.Cuts.{Loops, AreLoopsOf, loops_by}
use Rattle.loops.specs.Sweeps.{first_gate, gate_of, CutsAreFixed}
use Rattle.unroll.specs.Unrolled.{copy_of, copies_of, copy_signal, old_signal, copy_gate, kept_gate, unrolled, unrolled_size, sweeps_of, IsOfLoops}

-- what holds of an unrolled netlist, whatever the number of sweeps of each loop
abbrev pub OfUnrolled : (Parts → Loops → (ℕ → ℕ) → Type 0) → Type 0
OfUnrolled P = (net : Parts) (loops : Loops) → AreLoopsOf net loops → (m : ℕ → ℕ) → IsOfLoops loops m → P net loops m

-- its gates and latches are as many as its size says
abbrev pub UnrolledHasItsSize : Type 0
UnrolledHasItsSize = OfUnrolled (λ net loops m.
    length (unrolled net loops m).gates + length (unrolled net loops m).latches ≡ unrolled_size net loops.same m)

-- copy number k of a gate stands at the signal from which it is read, and so does each gate of the netlist
abbrev pub GatesStandAtTheirSignals : Type 0
GatesStandAtTheirSignals = OfUnrolled (λ net loops m.
    ((k n : ℕ) → n < length net.gates → 1 ≤ k → k ≤ copies_of loops.same m n →
    gate_at (unrolled net loops m) (gate_of net (copy_signal net loops m k n)) ≡ copy_gate net loops m (copy_of k n))
    × ((n : ℕ) → n < length net.gates →
    gate_at (unrolled net loops m) (gate_of net (old_signal net loops m (gate_sig net n))) ≡ kept_gate net loops m n))

-- it is a netlist: the names of copies are new, and each pin reads a signal
abbrev pub UnrolledIsNetlist : Type 0
UnrolledIsNetlist = OfUnrolled (λ net loops m.
    IsNetlist net → length net.inputs ≤ 4000000000 → unrolled_size net loops.same m ≤ MAX_REWRITTEN_ITEMS → IsNetlist (unrolled net loops m))

-- it has no loop
abbrev pub UnrolledIsLoopFree : Type 0
UnrolledIsLoopFree = OfUnrolled (λ net loops m. IsLoopFree (unrolled net loops m))

-- at this vector the cut wires of each loop stand at the fixpoint after m sweeps
pub record AreEnough (net : Parts) (loops : Loops) (m : ℕ → ℕ) (v : List Trit) : Type 0 where
  pub width : length v ≡ first_gate net
  pub fixed : (a : ℕ) → loops.same a a ≡ true → CutsAreFixed net loops v a (m a)

-- which is so where it is so of each block that is a loop
abbrev pub EnoughByBlocks : Type 0
EnoughByBlocks = (net : Parts) (blocks : Blocks) (cut : Cut) (counts : SweepCounts) → AreBlocksOf net blocks →
    (v : List Trit) → length v ≡ first_gate net →
    ((n : ℕ) → n < length net.gates → (block_at blocks (home_of blocks n)).looped ≡ true →
    CutsAreFixed net (loops_by blocks cut) v n (sweeps_of blocks counts n)) →
    AreEnough net (loops_by blocks cut) (sweeps_of blocks counts) v

-- Then each signal has in the fixpoint of the unrolled netlist the value that it has here, or it is X here.
abbrev pub UnrolledIsAbove : Type 0
UnrolledIsAbove = OfUnrolled (λ net loops m. (v : List Trit) → AreEnough net loops m v → (s : Sig) →
    Below (wire (fix net v) s) (wire (fix (unrolled net loops m) v) (old_signal net loops m s)))

-- the fixpoint of the other netlist tells at this vector of the outputs and of what latches load at least what that of
-- this one does
pub record TellsAsMuchAt (net other : Parts) (v : List Trit) : Type 0 where
  pub outputs : EachBelow (outs net v) (outs other v)
  pub loads : EachBelow (next net v) (next other v)

abbrev pub UnrolledTellsAsMuch : Type 0
UnrolledTellsAsMuch = OfUnrolled (λ net loops m.
    (v : List Trit) → AreEnough net loops m v → TellsAsMuchAt net (unrolled net loops m) v)

-- the other netlist has the names of inputs, latches and outputs in their order, the inits and the clock of this one
pub record KeepsInterface (net other : Parts) : Type 0 where
  pub inputs : net.inputs ≡ other.inputs
  pub latches : map (λ latch. latch.name) net.latches ≡ map (λ latch. latch.name) other.latches
  pub inits : map (λ latch. latch.init) net.latches ≡ map (λ latch. latch.init) other.latches
  pub outputs : output_names net ≡ output_names other
  pub clock : net.clock ≡ other.clock

abbrev pub UnrolledKeepsInterface : Type 0
UnrolledKeepsInterface = OfUnrolled (λ net loops m. KeepsInterface net (unrolled net loops m))
