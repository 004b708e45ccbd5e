-- A care set of the first netlist as one of the second: the same models, bound to the second one's columns by name.
use Rattle.std.specs.Prelude.{ℕ, Option, map, length, option_map}
use Rattle.netlist.specs.declared.parts.Parts.{Parts}
use Rattle.care_sets.specs.Binding.{BindsAny}
use Rattle.care_sets.specs.declared.model.CareModel.{CareModel}
use Rattle.care_sets.specs.Care.{CareSet}
use Rattle.miters.specs.declared.answer.Answer.{Answer}
use Rattle.miters.specs.Differences.{column_named, comparison}

-- the model, bound to a netlist whose columns it may read from `first` on
abbrev pub bound_to : Parts → ℕ → CareModel → CareModel
bound_to net first model = record { net = model.net; first = first; columns = map (column_named net) model.net.inputs }

-- both models
abbrev pub rebound : Parts → CareSet → CareSet
rebound net care = record { assume = option_map (bound_to net 0) care.assume; invariant = option_map (bound_to net (length net.inputs)) care.invariant }

-- the care set of two models, each bound where it is there
pub record BindsEach (net : Parts) (a i : Option Parts) (care : CareSet) : Type 0 where
  pub assume : BindsAny net 0 a care.assume
  pub invariant : BindsAny net (length net.inputs) i care.invariant

-- what is told of two netlists on a care set of the first
abbrev pub found : Parts → Parts → CareSet → Answer
found a b care = comparison a care b (rebound b care)
