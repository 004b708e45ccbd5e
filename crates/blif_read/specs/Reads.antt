-- The models of a text, or its first fault.
use Rattle.std.specs.Prelude.{ℕ, true, List, [], ◌∷◌, map, Some, None, Ok, Err}
use Rattle.std.specs.declared.option.Option.{Option}
use Rattle.std.specs.declared.result.Result.{Result}
use Rattle.blif_text.specs.Texts.{Line, lines}
use Rattle.blif_read.specs.declared.fault.BlifFault.{BlifFault}
use Rattle.blif_read.specs.declared.fault.BlifFault.TheVariants.{BadByte, NoModel}
use Rattle.blif_read.specs.declared.models.BlifModel.{BlifModel}
use Rattle.blif_read.specs.Faults.{first_fault}
use Rattle.blif_read.specs.Statements.{statement}
use Rattle.blif_read.specs.Models.{models}

-- a text without any model has a fault
abbrev pub if_any : List BlifModel → Result (List BlifModel) BlifFault
if_any [] = Err NoModel
if_any (model ∷ more) = Ok (model ∷ more)

abbrev pub unless_fault : Option BlifFault → List BlifModel → Result (List BlifModel) BlifFault
unless_fault (Some fault) found = Err fault
unless_fault None found = if_any found

-- the first line with a fault decides; without one there are the models of what the lines say
abbrev pub reads_lines : Result (List Line) ℕ → Result (List BlifModel) BlifFault
reads_lines (Err bad) = Err (BadByte bad)
reads_lines (Ok found) = unless_fault (first_fault [] found) (models (map statement found))

abbrev pub reads : List ℕ → Result (List BlifModel) BlifFault
reads text = reads_lines (lines text true)
