-- How many sweeps a loop needs on care.
use Rattle.std.specs.Prelude.{◌≡◌, ◌<◌, ◌==◌, ◌&&◌, ℕ, Bool, true, false, not, List, length, map}
use Rattle.std.specs.List.{list_all, position_or_len, range_with_len, slice_index_or}
use Rattle.cyc_base.specs.declared.trit.Trit.{Trit}
use Rattle.cyc_base.specs.declared.trit.Trit.TheVariants.{Zero, One, X}
use Rattle.cyc_base.specs.Values.{bits}
use Rattle.netlist.specs.declared.parts.Parts.{Parts}
use Rattle.netlist.specs.Netlists.{columns}
use Rattle.netlist.specs.Fixpoint.{fix_gates}
use Rattle.loops.specs.declared.structure.Blocks.{Blocks}
use Rattle.loops.specs.declared.structure.Cut.{Cut}
use Rattle.loops.specs.declared.structure.SweepCounts.{SweepCounts}
use Rattle.loops.specs.Blocks.{block_at, home_of}
use Rattle.loops.specs.Cuts.{Loops, loops_by}
use Rattle.loops.specs.Found.{loops_of}
use Rattle.loops.specs.Sweeps.{CutsAreFixed, IsCountOfSweeps, value_in, sweeps, cuts_of}
use Rattle.care_sets.specs.Care.{CareSet, IsCareVector, is_one, is_care_vector}
use Rattle.refusals.specs.Refusals.{is_x, care_vectors}

-- a care vector at which so many sweeps of gate a's loop don't reach the fixpoint
pub record NeedsMore (net : Parts) (loops : Loops) (care : CareSet) (a k : ℕ) : Type 0 where
  pub vector : List Bool
  pub counts : IsCareVector net care vector
  pub open_cuts : ¬ CutsAreFixed net loops (bits vector) a k

-- so many sweeps are enough on care, and no fewer are
pub record IsLeastCount (net : Parts) (loops : Loops) (care : CareSet) (a m : ℕ) : Type 0 where
  pub enough : (v : List Bool) → IsCareVector net care v → CutsAreFixed net loops (bits v) a m
  pub least : (k : ℕ) → k < m → NeedsMore net loops care a k

-- the values are known, and those of a care vector
abbrev pub are_care_values : Parts → CareSet → List Trit → Bool
are_care_values net care values =
    list_all (λ value. not (is_x value)) values && (length values == columns net && is_care_vector net care (map is_one values))

-- each loop has the number of sweeps that it needs on care, and another block has 0
pub record AreSweepsOnCare (net : Parts) (blocks : Blocks) (cut : Cut) (care : CareSet) (counts : SweepCounts) : Type 0 where
  pub width : length counts.per_block ≡ length blocks.list
  pub loops : (gate : ℕ) → gate < length net.gates → (block_at blocks (home_of blocks gate)).looped ≡ true →
      IsCountOfSweeps net (loops_by blocks cut) (are_care_values net care) gate (slice_index_or counts.per_block (home_of blocks gate) 0)
  pub others : (b : ℕ) → (block_at blocks b).looped ≡ false → slice_index_or counts.per_block b 0 ≡ 0

-- two values are one
abbrev pub trit_eq : Trit → Trit → Bool
trit_eq Zero Zero = true
trit_eq One One = true
trit_eq X X = true
trit_eq a b = false

-- the cut wires of gate n's loop
abbrev pub cut_wires : Parts → ℕ → List ℕ
cut_wires net n = cuts_of net (loops_of net) n

-- whether after k sweeps each of them has its value of the fixpoint, at a vector
abbrev pub are_fixed : Parts → ℕ → ℕ → List Bool → Bool
are_fixed net n k v =
    list_all (λ c. trit_eq (value_in (sweeps net (loops_of net) (bits v) k) c) (value_in (fix_gates net (bits v)) c)) (cut_wires net n)

-- whether they do so at each care vector
abbrev pub is_enough : Parts → CareSet → ℕ → ℕ → Bool
is_enough net care n k = list_all (are_fixed net n k) (care_vectors net care)

-- How many sweeps the loop of gate n needs on care: the least number that is enough. As many as it has cut wires always
-- are. A gate in no loop has no cut wires, and needs none.
abbrev pub sweeps_needed : Parts → CareSet → ℕ → ℕ
sweeps_needed net care n = position_or_len (is_enough net care n) (range_with_len 0 (length (cut_wires net n)))

-- this is the least number of sweeps after which the cut wires of the loop stand at the fixpoint on all care vectors
abbrev pub NeededIsLeast : Type 0
NeededIsLeast = (net : Parts) (care : CareSet) (n : ℕ) →
    IsCountOfSweeps net (loops_of net) (are_care_values net care) n (sweeps_needed net care n)
