-- The wires of a netlist as rails while it is solved block by block, and one loop sweep by sweep.
use Rattle.std.specs.Prelude.{◌≡◌, ◌<◌, ◌≤◌, ◌+◌, ◌&&◌, ℕ, nat_le, Bool, true, if◌then◌else◌, List, length, map, take, All, Some, None, slice_index_or, slice_set}
use Rattle.std.specs.declared.option.Option.{Option}
use Rattle.bdd_store.specs.Arena.{Arena}
use Rattle.cover_logic.specs.Extensions.{ext}
use Rattle.cyc_base.specs.declared.sig.Sig.{Sig}
use Rattle.cyc_base.specs.declared.trit.Trit.{Trit}
use Rattle.dual_rail.specs.declared.rail.Rails.{Rails}
use Rattle.dual_rail.specs.Rails.{AreRailsOf, value_of, values_of}
use Rattle.netlist.specs.declared.parts.Parts.{Parts}
use Rattle.netlist.specs.Fixpoint.{fix_gates}
use Rattle.netlist.specs.Netlists.{count, gate_at}
use Rattle.loops.specs.declared.structure.Cut.{Cut}
use Rattle.loops.specs.Blocks.{block_at, home_of}
use Rattle.loops.specs.Cuts.{is_cut, loops_by}
use Rattle.loops.specs.Looped.{Looped, IsLooped}
use Rattle.loops.specs.Orders.{IsOrderOf}
use Rattle.loops.specs.Sweeps.{first_gate, gate_of, value_in, sweep, sweeps}
use Rattle.fixpoint.specs.declared.kept.KeptRails.{KeptRails}
use Rattle.fixpoint.specs.declared.progress.Progress.{Progress}
use Rattle.fixpoint.specs.declared.solved.LoopSteps.{LoopSteps}
use Rattle.fixpoint.specs.declared.solved.SweptLoop.{SweptLoop}
use Rattle.fixpoint.specs.Kept.{rails_under, values_under, AreKept}
use Rattle.fixpoint.specs.Solved.{Vectors, IsLoopAt, AreGiven, AreStepsOf, AreKeptSteps}

-- the rails of X
abbrev pub unknown : Rails
unknown = record { one = record { number = 0 }; zero = record { number = 0 } }

abbrev pub rails_at : List Rails → ℕ → Rails
rails_at rails s = slice_index_or rails s unknown

-- the rails of a signal as gates read it: a cut wire as it was before the sweep
abbrev pub rails_read : Parts → Cut → List Rails → List Rails → Sig → Rails
rails_read net cut before rails pin =
    if nat_le (first_gate net) pin.0 && is_cut cut.wires (gate_of net pin)
    then rails_at before (gate_of net pin)
    else rails_at rails pin.0

-- proper rails of each signal, and of each gate before the sweep
pub record AreWires (net : Parts) (a : Arena) (before rails : List Rails) : Type 0 where
  pub width : length rails ≡ count net
  pub before_width : length before ≡ length net.gates
  pub proper : All (AreRailsOf a) rails
  pub before_proper : All (AreRailsOf a) before

-- the gate alone has new rails: its cover's on what it reads
pub record IsGateSet (net : Parts) (cut : Cut) (old new : Arena) (before rails set : List Rails) (gate : ℕ) : Type 0 where
  pub made : Rails
  pub is : set ≡ slice_set rails (first_gate net + gate) made
  pub proper : AreRailsOf new made
  pub value : (bits : List Bool) → value_of new made bits
      ≡ ext (gate_at net gate).cover (map (λ pin. value_of old (rails_read net cut before rails pin) bits) (gate_at net gate).pins)

-- a state of all gates for each list of bits
abbrev pub States : Type 0
States = List Bool → List Trit

-- the vectors that the rails of inputs and latches stand for
abbrev pub vectors : Parts → Arena → List Rails → Vectors
vectors net a rails bits = values_of a (take (first_gate net) rails) bits

-- Inputs and latches have the values of the vector, and the gates of the blocks before place b stand at the fixpoint,
-- their cut wires before the sweep too.
pub record IsSolvedBelow (l : Looped) (a : Arena) (v : Vectors) (b : ℕ) (before rails : List Rails) : Type 0 where
  pub wires : AreWires l.net a before rails
  pub vector : (bits : List Bool) → length (v bits) ≡ first_gate l.net
  pub given : (s : ℕ) (bits : List Bool) → s < first_gate l.net → value_of a (rails_at rails s) bits ≡ value_in (v bits) s
  pub gates : (n : ℕ) (bits : List Bool) → n < length l.net.gates → home_of l.blocks n < b →
      value_of a (rails_at rails (first_gate l.net + n)) bits ≡ value_in (fix_gates l.net (v bits)) n
  pub cuts : (n : ℕ) (bits : List Bool) → n < length l.net.gates → home_of l.blocks n < b → is_cut l.cut.wires n ≡ true →
      value_of a (rails_at before n) bits ≡ value_in (fix_gates l.net (v bits)) n

-- the cut wires of later blocks are still X
abbrev pub AreFresh : Looped → ℕ → List Rails → Type 0
AreFresh l b before = (n : ℕ) → n < length l.net.gates → b ≤ home_of l.blocks n → rails_at before n ≡ unknown

-- before the sweep, the cut wires of block b are as in these states
abbrev pub CutsAre : Looped → Arena → States → ℕ → List Rails → Type 0
CutsAre l a c b before = (n : ℕ) (bits : List Bool) → n < length l.net.gates → home_of l.blocks n ≡ b →
    is_cut l.cut.wires n ≡ true → value_of a (rails_at before n) bits ≡ value_in (c bits) n

-- the gates of a kind are set as by the sweep from these states
abbrev pub AreSwept : Looped → Arena → Vectors → States → (ℕ → Type 0) → List Rails → Type 0
AreSwept l a v c Kind rails = (n : ℕ) (bits : List Bool) → n < length l.net.gates → Kind n →
    value_of a (rails_at rails (first_gate l.net + n)) bits ≡ value_in (sweep l.net (loops_by l.blocks l.cut) (v bits) (c bits)) n

-- block b is a loop of the netlist, and all that a sweep of it reads is there: the blocks before it are solved, its
-- cut wires are as in these states, and its gates have an order for sweeps
pub record IsSweepable (l : Looped) (a : Arena) (v : Vectors) (c : States) (b : ℕ) (order : List ℕ) (before rails : List Rails) : Type 0 where
  pub are : IsLooped l
  pub loop : IsLoopAt l.blocks b
  pub follows : IsOrderOf l.net (is_cut l.cut.wires) (block_at l.blocks b).gates order
  pub solved : IsSolvedBelow l a v b before rails
  pub cuts : CutsAre l a c b before

-- the states after k sweeps
abbrev pub after_sweeps : Looped → Vectors → ℕ → States
after_sweeps l v k bits = sweeps l.net (loops_by l.blocks l.cut) (v bits) k

-- what was found of the block at place b: the steps of a loop, or nothing of another block
abbrev pub IsFoundAt : Looped → Arena → Vectors → ℕ → Option SweptLoop → Type 0
IsFoundAt l a v b (Some steps) = AreStepsOf l.net l.blocks l.cut a v steps × (steps.block ≡ b)
IsFoundAt l a v b None = ¬ IsLoopAt l.blocks b

-- what is kept of it
abbrev pub IsKeptAt : Looped → Arena → Vectors → ℕ → Option LoopSteps → Type 0
IsKeptAt l a v b (Some loop) = AreKeptSteps l.net l.blocks l.cut a v loop × (loop.block ≡ b)
IsKeptAt l a v b None = ¬ IsLoopAt l.blocks b

-- the place of a gate's kept rails
abbrev pub place_of : List (Option KeptRails) → ℕ → Option KeptRails
place_of places n = slice_index_or places n None

-- the rails at a place, or those of X where there are none
abbrev pub rails_in : Arena → Option KeptRails → Rails
rails_in a None = unknown
rails_in a (Some kept) = rails_under a kept

-- a place has proper rails with these values
pub record HasValues (a : Arena) (place : Option KeptRails) (values : List Bool → Trit) : Type 0 where
  pub kept : KeptRails
  pub is : place ≡ Some kept
  pub keys : AreKept a kept
  pub proper : AreRailsOf a (rails_under a kept)
  pub values_are : (bits : List Bool) → value_of a (rails_under a kept) bits ≡ values bits

-- the gates of the blocks before place b are kept, at the fixpoint, and no others are
pub record AreKeptBelow (l : Looped) (a : Arena) (v : Vectors) (b : ℕ) (places : List (Option KeptRails)) : Type 0 where
  pub width : length places ≡ length l.net.gates
  pub solved : (n : ℕ) → n < length l.net.gates → home_of l.blocks n < b → HasValues a (place_of places n) (λ bits. value_in (fix_gates l.net (v bits)) n)
  pub later : (n : ℕ) → n < length l.net.gates → b ≤ home_of l.blocks n → place_of places n ≡ None

-- the blocks before place b are solved at the vectors of the given rails, and their gates are kept
pub record IsSolvedTo (l : Looped) (a : Arena) (given : List KeptRails) (b : ℕ) (before rails : List Rails) (places : List (Option KeptRails)) : Type 0 where
  pub given_are : AreGiven l.net a given
  pub solved : IsSolvedBelow l a (values_under a given) b before rails
  pub fresh : AreFresh l b before
  pub kept : AreKeptBelow l a (values_under a given) b places

abbrev pub HasSolvedTo : Looped → Arena → List KeptRails → ℕ → Progress → Type 0
HasSolvedTo l a given b progress = IsSolvedTo l a given b progress.wires.before.items progress.wires.rails.items progress.places.items
