-- The netlist without loops that stands for a netlist: for each sweep that a loop needs a copy of the loop's gates, and
-- then the gates themselves, whose cut wires are read from the last copy. The number m n says how many sweeps the loop
-- of gate n needs, and is one number for each loop.
use Rattle.std.specs.Prelude.{◌≡◌, ℕ, zero, suc, ◌+◌, ◌<◌, ◌≤◌, max, nat_le, Bool, ◌==◌, ◌&&◌, true, if◌then◌else◌, List, [], ◌∷◌, ◌++◌, length, map, filter, slice_index_or}
use Rattle.std.specs.List.{range_with_len, list_any, sum_by}
use Rattle.cyc_base.specs.declared.limits.TheConstants.{MAX_REWRITTEN_ITEMS}
use Rattle.cyc_base.specs.declared.sig.Sig.{Sig}
use Rattle.netlist.specs.declared.parts.Gate.{Gate}
use Rattle.netlist.specs.declared.parts.Latch.{Latch}
use Rattle.netlist.specs.declared.parts.Parts.{Parts}
use Rattle.netlist.specs.Netlists.{signal, gate_at}
use Rattle.loops.specs.declared.structure.Blocks.{Blocks}
use Rattle.loops.specs.declared.structure.SweepCounts.{SweepCounts}
use Rattle.loops.specs.Blocks.{home_of}
use Rattle.loops.specs.Cuts.{Loops}
use Rattle.loops.specs.Sweeps.{first_gate, gate_of, in_loop_of}
use Rattle.unroll.specs.Marks.{mark, zero_name, copy_name}
use Rattle.unroll.specs.declared.fault.UnrollFault.{UnrollFault}
use Rattle.unroll.specs.declared.fault.UnrollFault.TheVariants.{TooLarge, Memory}

-- the number of a gate's block
abbrev pub sweeps_of : Blocks → SweepCounts → ℕ → ℕ
sweeps_of blocks counts n = slice_index_or counts.per_block (home_of blocks n) 0

-- how many copies gate n has: one for each sweep of its loop, and none outside of loops
abbrev pub copies_of : (ℕ → ℕ → Bool) → (ℕ → ℕ) → ℕ → ℕ
copies_of same m n = if same n n then m n else 0

-- copy number `number` of a gate
pub record Copy : Type 0 where
  pub number : ℕ
  pub gate : ℕ

abbrev pub copy_of : ℕ → ℕ → Copy
copy_of k n = record { number = k; gate = n }

-- the gates that have a copy number k, in flat order
abbrev pub copied : Parts → Loops → (ℕ → ℕ) → ℕ → List ℕ
copied net loops m k = filter (λ n. nat_le k (copies_of loops.same m n)) (range_with_len 0 (length net.gates))

-- the copies number 1, then those number 2, and so on up to number k
abbrev pub copies_upto : Parts → Loops → (ℕ → ℕ) → ℕ → List Copy
copies_upto net loops m zero = []
copies_upto net loops m (suc k) = copies_upto net loops m k ++ map (copy_of (suc k)) (copied net loops m (suc k))

-- the most copies that one of the first n gates has
abbrev pub most : (ℕ → ℕ → Bool) → (ℕ → ℕ) → ℕ → ℕ
most same m zero = 0
most same m (suc n) = max (most same m n) (copies_of same m n)

-- all copies
abbrev pub copies : Parts → Loops → (ℕ → ℕ) → List Copy
copies net loops m = copies_upto net loops m (most loops.same m (length net.gates))

-- the place of copy number k of gate n among copies
abbrev pub place : List Copy → ℕ → ℕ → ℕ
place [] k n = 0
place (copy ∷ rest) k n = if copy.number == k && copy.gate == n then 0 else suc (place rest k n)

abbrev pub has_loop : Parts → (ℕ → ℕ → Bool) → Bool
has_loop net same = list_any (λ n. same n n) (range_with_len 0 (length net.gates))

-- the constant 0: a gate without pins and rows
abbrev pub zero_gate : List ℕ → Gate
zero_gate mark = record { name = zero_name mark; pins = []; cover = record { pins = 0; plane = true; rows = [] } }

-- where there is a loop, the first gate is the constant 0
abbrev pub constants : Parts → Loops → List Gate
constants net loops = if has_loop net loops.same then zero_gate (mark net) ∷ [] else []

-- how many gates stand before the netlist's own
abbrev pub shift : Parts → Loops → (ℕ → ℕ) → ℕ
shift net loops m = length (constants net loops) + length (copies net loops m)

-- a signal of the netlist in the unrolled one: gates are moved up
abbrev pub moved : Parts → ℕ → Sig → Sig
moved net by s = if nat_le (first_gate net) s.0 then signal (s.0 + by) else s

abbrev pub old_signal : Parts → Loops → (ℕ → ℕ) → Sig → Sig
old_signal net loops m = moved net (shift net loops m)

-- copy number k of gate n in the unrolled netlist, where number 0 is the constant 0
abbrev pub copy_signal : Parts → Loops → (ℕ → ℕ) → ℕ → ℕ → Sig
copy_signal net loops m zero n = signal (first_gate net)
copy_signal net loops m (suc k) n = signal (first_gate net + (length (constants net loops) + place (copies net loops m) (suc k) n))

-- What stands in the place of a pin of gate n that reads s: `cuts` says it of a cut wire of the gate's loop, `inner` of
-- another wire of its loop, and `outer` of a wire from outside.
abbrev pub redirected : Parts → Loops → (ℕ → Sig) → (ℕ → Sig) → (Sig → Sig) → ℕ → Sig → Sig
redirected net loops cuts inner outer n s =
    if in_loop_of net loops n s
    then (if loops.cut (gate_of net s) then cuts (gate_of net s) else inner (gate_of net s))
    else outer s

-- a pin of copy number k + 1 reads cut wires of its loop from copy k, other wires of its loop from copy k + 1, and the old
-- wire from outside
abbrev pub copy_pin : Parts → Loops → (ℕ → ℕ) → ℕ → ℕ → Sig → Sig
copy_pin net loops m k n = redirected net loops (copy_signal net loops m k) (copy_signal net loops m (suc k)) (old_signal net loops m) n

-- a pin of a gate itself reads cut wires of its loop from copy number m, and else the old wire
abbrev pub kept_pin : Parts → Loops → (ℕ → ℕ) → ℕ → Sig → Sig
kept_pin net loops m n s =
    if in_loop_of net loops n s && loops.cut (gate_of net s)
    then copy_signal net loops m (m n) (gate_of net s)
    else old_signal net loops m s

-- the number before a copy's
abbrev pub before : ℕ → ℕ
before zero = zero
before (suc k) = k

-- a copy has its gate's cover
abbrev pub copy_gate : Parts → Loops → (ℕ → ℕ) → Copy → Gate
copy_gate net loops m copy = record {
  name = copy_name (mark net) copy.number (gate_at net copy.gate).name;
  pins = map (copy_pin net loops m (before copy.number) copy.gate) (gate_at net copy.gate).pins;
  cover = (gate_at net copy.gate).cover;
}

-- a gate itself keeps its name and its cover
abbrev pub kept_gate : Parts → Loops → (ℕ → ℕ) → ℕ → Gate
kept_gate net loops m n = record {
  name = (gate_at net n).name;
  pins = map (kept_pin net loops m n) (gate_at net n).pins;
  cover = (gate_at net n).cover;
}

abbrev pub kept_latch : Parts → ℕ → Latch → Latch
kept_latch net by latch = record { name = latch.name; from = moved net by latch.from; init = latch.init; clocked = latch.clocked }

-- the unrolled netlist: the constant, the copies, and all gates of the netlist in flat order
abbrev pub unrolled : Parts → Loops → (ℕ → ℕ) → Parts
unrolled net loops m = record {
  name = net.name;
  inputs = net.inputs;
  clock = net.clock;
  latches = map (kept_latch net (shift net loops m)) net.latches;
  gates = constants net loops
      ++ (map (copy_gate net loops m) (copies net loops m)
      ++ map (kept_gate net loops m) (range_with_len 0 (length net.gates)));
  outputs = map (old_signal net loops m) net.outputs;
}

-- Its size, in gates and latches: those of the netlist, for each loop m times its gates, and the constant where there is
-- a loop.
abbrev pub unrolled_size : Parts → (ℕ → ℕ → Bool) → (ℕ → ℕ) → ℕ
unrolled_size net same m =
    length net.gates + length net.latches
    + sum_by (copies_of same m) (range_with_len 0 (length net.gates))
    + (if has_loop net same then 1 else 0)

-- m is one number for each loop
abbrev pub IsOfLoops : Loops → (ℕ → ℕ) → Type 0
IsOfLoops loops m = (a b : ℕ) → loops.same a b ≡ true → m a ≡ m b

-- the size is over 4,000,000, or it isn't and memory ran out
abbrev pub IsUnrollFault : ℕ → UnrollFault → Type 0
IsUnrollFault size (TooLarge answered) = (MAX_REWRITTEN_ITEMS < size) × (answered ≡ size)
IsUnrollFault size Memory = size ≤ MAX_REWRITTEN_ITEMS
