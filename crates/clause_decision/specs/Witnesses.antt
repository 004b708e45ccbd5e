-- A care vector at which some gate is unknown.
use Rattle.std.specs.Prelude.{◌≡◌, ◌<◌, ℕ, Bool, true, false, List, length, slice_index}
use Rattle.netlist.specs.Netlists.{columns}
use Rattle.netlist.specs.declared.parts.Parts.{Parts}
use Rattle.care_sets.specs.Care.{CareSet}
use Rattle.clause_formulas.specs.Formulas.{says}
use Rattle.clause_decision.specs.Cones.{vector_in}
use Rattle.clause_decision.specs.declared.unknown.Unknowns.{Unknowns}
use Rattle.refusals.specs.Tests.{is_unknown, is_unknown_at}
use Rattle.clause_decision.specs.declared.witness.Witness.{Witness}
use Rattle.clause_decision.specs.declared.witness.Witness.TheVariants as witnesses

-- a care vector at which the gate at this place is unknown
pub record IsWitness (net : Parts) (care : CareSet) (gates : List ℕ) (vector : List Bool) (place : ℕ) : Type 0 where
  pub within : place < length gates
  pub width : length vector ≡ columns net
  pub unknown : is_unknown_at net care (slice_index gates place) vector ≡ true

-- such a vector, or that none of these gates is unknown at one; or nothing is said
abbrev pub TellsWitness : Parts → CareSet → List ℕ → Witness → Type 0
TellsWitness net care gates (witnesses.Found vector place) = IsWitness net care gates vector.items place
TellsWitness net care gates witnesses.Nowhere = (j : ℕ) → j < length gates → is_unknown net care (slice_index gates j) ≡ false
TellsWitness net care gates witnesses.Unknown = Unit {0}

-- the vector of a model, and the place of the first sum that is true in it
pub record IsFirstTrue (net : Parts) (u : Unknowns) (m vector : List Bool) (place : ℕ) : Type 0 where
  pub within : place < length u.sums.items
  pub vector_is : vector ≡ vector_in net u.cone.rails.items m
  pub is_true : says m (slice_index u.sums.items place) ≡ true
  pub before : (k : ℕ) → k < place → says m (slice_index u.sums.items k) ≡ false

abbrev pub IsFirstTrueIn : Parts → Unknowns → List Bool → Witness → Type 0
IsFirstTrueIn net u m (witnesses.Found vector place) = IsFirstTrue net u m vector.items place
IsFirstTrueIn net u m witnesses.Nowhere = ⊥
IsFirstTrueIn net u m witnesses.Unknown = ⊥
