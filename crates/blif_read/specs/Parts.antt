-- Lines that are read one after the other without a fault.
use Rattle.std.specs.Prelude.{◌≡◌, List, [], ◌∷◌, None}
use Rattle.blif_text.specs.Texts.{Line}
use Rattle.blif_read.specs.Statements.{statement}
use Rattle.blif_read.specs.Running.{Progress, follow, fault_next}

-- none of the lines has a fault, and they lead from one state to another
abbrev pub LeadTo : Progress → List Line → Progress → Type 0
LeadTo before [] behind = behind ≡ before
LeadTo before (line ∷ rest) behind = (fault_next before line ≡ None) × LeadTo (follow before (statement line)) rest behind
