-- Many gates, piece by piece.
use Rattle.std.specs.Prelude.{◌≡◌, ◌<◌, ◌≤◌, ◌+◌, ℕ, Bool, false, List, length, slice_index, slice_index_or}
use Rattle.netlist.specs.declared.parts.Parts.{Parts}
use Rattle.care_sets.specs.Care.{CareSet}
use Rattle.refusals.specs.Tests.{is_unknown}

-- some of these gates, at least one, from this place on
pub record IsPieceAt (gates : List ℕ) (start : ℕ) (piece : List ℕ) : Type 0 where
  pub some : 0 < length piece
  pub within : start + length piece ≤ length gates
  pub each : (i : ℕ) → i < length piece → slice_index piece i ≡ slice_index gates (start + i)

-- none of the gates before this place is unknown at a care vector
pub record AreKnownBefore (net : Parts) (care : CareSet) (gates : List ℕ) (start : ℕ) : Type 0 where
  pub within : start ≤ length gates
  pub each : (j : ℕ) → j < start → is_unknown net care (slice_index gates j) ≡ false

-- for each of the first so many gates as there are values whether it is
pub record AreToldBefore (net : Parts) (care : CareSet) (gates : List ℕ) (found : List Bool) : Type 0 where
  pub within : length found ≤ length gates
  pub each : (i : ℕ) → i < length found → is_unknown net care (slice_index gates i) ≡ slice_index_or found i false
