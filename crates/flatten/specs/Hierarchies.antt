-- The models of a file, with what a walk through them looks up.
use Rattle.std.specs.Prelude.{◌≡◌, ℕ, List, map}
use Rattle.blif_read.specs.Flattening.{CanBeFlattened}
use Rattle.blif_read.specs.declared.models.BlifModel.{BlifModel}
use Rattle.flatten.specs.declared.library.Library.{Library}
use Rattle.flatten.specs.Wires.{mark_of}
use Rattle.flatten.specs.Instances.{formals}
use Rattle.flatten.specs.Linking.{each_once}

-- models, and how many instances may lie in one another
pub record NestedModels : Type 0 where
  pub models : List BlifModel
  pub depth : ℕ

-- the tables in which the walk looks up models and formals
pub record IsLibraryOf (models : List BlifModel) (library : Library) : Type 0 where
  pub places : library.places.keys ≡ map (λ model. model.name) models
  pub formals : map (λ set. set.keys) library.formals.items ≡ map (λ model. each_once (formals model)) models

-- the library and the mark are those of the models, which can be flattened
pub record IsHierarchyOf (models : List BlifModel) (l : Library) (m : List ℕ) : Type 0 where
  pub library : IsLibraryOf models l
  pub mark : m ≡ mark_of models
  pub sound : CanBeFlattened models
