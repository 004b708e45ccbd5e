-- A loop of a netlist: a block that is one, with the places of its cut wires.
use Rattle.std.specs.Prelude.{◌≡◌, ◌<◌, ℕ, Bool, true, List, length, filter, take, All, Contains, slice_index}
use Rattle.netlist.specs.declared.parts.Parts.{Parts}
use Rattle.netlist.specs.Netlists.{IsNetlist}
use Rattle.loops.specs.declared.structure.Blocks.{Blocks}
use Rattle.loops.specs.declared.structure.Cut.{Cut}
use Rattle.loops.specs.Blocks.{AreBlocksOf, block_at}
use Rattle.loops.specs.Cuts.{IsCutOf, Loops, is_cut, loops_by}
use Rattle.loops.specs.Looped.{Looped}

-- the places of the cut wires among the first k of these gates
pub record AreCutPlacesBelow (cut : ℕ → Bool) (gates : List ℕ) (k : ℕ) (places : List ℕ) : Type 0 where
  pub within : All (λ i. i < k) places
  pub are : All (λ i. cut (slice_index gates i) ≡ true) places
  pub each : (i : ℕ) → i < k → cut (slice_index gates i) ≡ true → Contains places i
  pub number : length places ≡ length (filter cut (take k gates))

-- and among all of them
abbrev pub AreCutPlaces : (ℕ → Bool) → List ℕ → List ℕ → Type 0
AreCutPlaces cut gates places = AreCutPlacesBelow cut gates (length gates) places

pub record LoopAt : Type 0 where
  pub net : Parts
  pub blocks : Blocks
  pub cut : Cut
  -- the place of the block among them
  pub number : ℕ
  -- the places of the cut wires among its gates
  pub cuts : List ℕ

abbrev pub gates_in : LoopAt → List ℕ
gates_in l = (block_at l.blocks l.number).gates

abbrev pub loops_in : LoopAt → Loops
loops_in l = loops_by l.blocks l.cut

-- the netlist with its loops
abbrev pub looped_in : LoopAt → Looped
looped_in l = record { net = l.net; blocks = l.blocks; cut = l.cut }

-- the block at a place of a netlist
abbrev pub loop_at : Looped → ℕ → List ℕ → LoopAt
loop_at l number cuts = record { net = l.net; blocks = l.blocks; cut = l.cut; number = number; cuts = cuts }

-- all parts are the netlist's, and the block is a loop
pub record IsLoopAt (l : LoopAt) : Type 0 where
  pub net : IsNetlist l.net
  pub blocks : AreBlocksOf l.net l.blocks
  pub cut : IsCutOf l.net l.cut
  pub number : l.number < length l.blocks.list
  pub looped : (block_at l.blocks l.number).looped ≡ true
  pub cuts : AreCutPlaces (is_cut l.cut.wires) (gates_in l) l.cuts
