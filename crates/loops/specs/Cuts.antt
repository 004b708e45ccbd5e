-- The cut wires of loops, found in flat order.
use Rattle.std.specs.Prelude.{◌≡◌, ◌<◌, ◌==◌, ◌↔◌, ◌&&◌, ℕ, nat_lt, Bool, true, false, List, length, slice_index_or}
use Rattle.netlist.specs.declared.parts.Parts.{Parts}
use Rattle.loops.specs.declared.structure.Blocks.{Blocks}
use Rattle.loops.specs.declared.structure.Cut.{Cut}
use Rattle.loops.specs.Blocks.{block_at, home_of}
use Rattle.loops.specs.Walks.{Leads, SameLoop}

-- what is found of a netlist: which gates are in one loop, and which are cut wires
pub record Loops : Type 0 where
  pub same : ℕ → ℕ → Bool
  pub cut : ℕ → Bool

-- a gate that a walk from n back to n may pass: of its loop, before it in flat order, and no cut wire
pub record MayPass (net : Parts) (cut : ℕ → Bool) (n m : ℕ) : Type 0 where
  pub loop : SameLoop net n m
  pub before : m < n
  pub uncut : cut m ≡ false

-- these are the netlist's cut wires
abbrev pub AreCutWires : Parts → (ℕ → Bool) → Type 0
AreCutWires net cut = (n : ℕ) → (cut n ≡ true) ↔ Leads net (MayPass net cut n) n n

-- these are the netlist's loops and cut wires
pub record AreLoopsOf (net : Parts) (loops : Loops) : Type 0 where
  pub same : (a b : ℕ) → (loops.same a b ≡ true) ↔ SameLoop net a b
  pub cut : AreCutWires net loops.cut

-- whether a gate is a cut wire, by a list with one entry for each gate
abbrev pub is_cut : List Bool → ℕ → Bool
is_cut wires n = slice_index_or wires n false

pub record IsCutOf (net : Parts) (cut : Cut) : Type 0 where
  pub width : length cut.wires ≡ length net.gates
  pub wires : AreCutWires net (is_cut cut.wires)

-- whether two gates are in one block, and this is a loop
abbrev pub in_one_loop : Blocks → ℕ → ℕ → Bool
in_one_loop blocks a b =
    nat_lt a (length blocks.home)
    && (nat_lt b (length blocks.home)
    && ((block_at blocks (home_of blocks a)).looped && home_of blocks a == home_of blocks b))

-- what blocks and a cut say of loops
abbrev pub loops_by : Blocks → Cut → Loops
loops_by blocks cut = record { same = in_one_loop blocks; cut = is_cut cut.wires }
