-- The gates of a block by their places in it, and which of them read which uncut ones.
use Rattle.std.specs.Prelude.{◌≡◌, ◌<◌, ℕ, false, List, [], length, slice_index, slice_index_or, Contains}
use Rattle.cyc_base.specs.declared.sig.Sig.{Sig}
use Rattle.netlist.specs.declared.parts.Parts.{Parts}
use Rattle.netlist.specs.Netlists.{gate_at}
use Rattle.loops.specs.declared.structure.Blocks.{Blocks}
use Rattle.loops.specs.declared.structure.Cut.{Cut}
use Rattle.loops.specs.Cuts.{is_cut}
use Rattle.loops.specs.Links.{IsLoopPin, IsLoopSource}

-- each gate's number is higher than those before it
abbrev pub Rise : List ℕ → Type 0
Rise gates = (i j : ℕ) → i < j → j < length gates → slice_index gates i < slice_index gates j

-- the source of a pin of a gate, in the gate's loop and no cut wire
pub record IsUncutSource (net : Parts) (blocks : Blocks) (cut : Cut) (gate : ℕ) (pin : Sig) (a : ℕ) : Type 0 where
  pub source : IsLoopSource net blocks gate pin a
  pub uncut : is_cut cut.wires a ≡ false

-- gate a is a pin of gate b in one loop, and no cut wire
pub record IsUncutPin (net : Parts) (blocks : Blocks) (cut : Cut) (a b : ℕ) : Type 0 where
  pub pin : IsLoopPin net blocks a b
  pub uncut : is_cut cut.wires a ≡ false

-- the place among these gates of a pin's uncut source
pub record IsPlaceRead (net : Parts) (blocks : Blocks) (cut : Cut) (gates : List ℕ) (gate : ℕ) (pin : Sig) (place : ℕ) : Type 0 where
  pub within : place < length gates
  pub source : IsUncutSource net blocks cut gate pin (slice_index gates place)

-- the places of the uncut sources of the first k pins of a gate
pub record ArePlacesRead (net : Parts) (blocks : Blocks) (cut : Cut) (gates : List ℕ) (gate k : ℕ) (places : List ℕ) : Type 0 where
  pub each : (place i : ℕ) (d : Sig) → i < k → IsPlaceRead net blocks cut gates gate (slice_index_or (gate_at net gate).pins i d) place →
      Contains places place
  pub only : (place : ℕ) → Contains places place → (place < length gates) × IsUncutPin net blocks cut (slice_index gates place) gate

-- the uncut reads of the first n gates, place by place
pub record AreUncutReads (net : Parts) (blocks : Blocks) (cut : Cut) (gates : List ℕ) (n : ℕ) (graph : List (List ℕ)) : Type 0 where
  pub nodes : length graph ≡ n
  pub each : (a b : ℕ) → a < n → b < length gates → IsUncutPin net blocks cut (slice_index gates b) (slice_index gates a) →
      Contains (slice_index_or graph a []) b
  pub only : (a b : ℕ) → a < n → Contains (slice_index_or graph a []) b →
      (b < length gates) × IsUncutPin net blocks cut (slice_index gates b) (slice_index gates a)

-- each gate stands at its new place
pub record ArePlaced (gates home : List ℕ) (count : ℕ) (order : List ℕ) : Type 0 where
  pub size : length order ≡ count
  pub each : (a : ℕ) → a < length gates → slice_index order (slice_index home a) ≡ slice_index gates a
