-- The first of some gates that is unknown on care, and which of them are.
use Rattle.std.specs.Prelude.{◌≡◌, ◌<◌, ℕ, Bool, true, false, List, length, slice_index, slice_index_or}
use Rattle.netlist.specs.declared.parts.Parts.{Parts}
use Rattle.care_sets.specs.Care.{CareSet}
use Rattle.refusals.specs.Tests.{is_unknown}
use Rattle.clause_queries.specs.declared.first.First.{First}
use Rattle.clause_queries.specs.declared.first.First.TheVariants as firsts

-- the first of these gates that is unknown at some care vector
pub record IsFirstUnknown (net : Parts) (care : CareSet) (gates : List ℕ) (place : ℕ) : Type 0 where
  pub within : place < length gates
  pub unknown : is_unknown net care (slice_index gates place) ≡ true
  pub before : (j : ℕ) → j < place → is_unknown net care (slice_index gates j) ≡ false

-- its place, or that none of them is; or nothing is said
abbrev pub TellsFirstUnknown : Parts → CareSet → List ℕ → First → Type 0
TellsFirstUnknown net care gates (firsts.At place) = IsFirstUnknown net care gates place
TellsFirstUnknown net care gates firsts.Nowhere = (j : ℕ) → j < length gates → is_unknown net care (slice_index gates j) ≡ false
TellsFirstUnknown net care gates firsts.Unknown = Unit {0}

-- for each of these gates whether it is
pub record TellEachUnknown (net : Parts) (care : CareSet) (gates : List ℕ) (found : List Bool) : Type 0 where
  pub width : length found ≡ length gates
  pub each : (i : ℕ) → i < length gates → is_unknown net care (slice_index gates i) ≡ slice_index_or found i false
