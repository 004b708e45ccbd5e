-- A model in which no instance stands: the lines of its body are those of its flat netlist.
use Rattle.std.specs.Prelude.{ℕ, nat_le, Bool, true, false, if◌then◌else◌, List, [], ◌∷◌, length, Err}
use Rattle.std.specs.declared.result.Result.{Result}
use Rattle.netlist.specs.declared.parts.Parts.{Parts}
use Rattle.blif_read.specs.declared.models.BlifModel.{BlifModel}
use Rattle.blif_read.specs.declared.models.GateLine.{GateLine}
use Rattle.blif_read.specs.declared.models.LatchLine.{LatchLine}
use Rattle.blif_read.specs.declared.models.Item.{Item}
use Rattle.blif_read.specs.declared.models.Item.TheVariants.{Gate, Latch, Part}
use Rattle.flatten.specs.declared.fault.FlatFault.{FlatFault}
use Rattle.flatten.specs.declared.fault.FlatFault.TheVariants.{TooLarge}
use Rattle.flatten.specs.Walk.{FlatLines}
use Rattle.flatten.specs.Linking.{linked}

abbrev pub is_part : Item → Bool
is_part (Gate g) = false
is_part (Latch l) = false
is_part (Part p) = true

-- the gates and the latches of a body, in their order
abbrev pub own_gates : List Item → List GateLine
own_gates [] = []
own_gates (Gate g ∷ items) = g ∷ own_gates items
own_gates (Latch l ∷ items) = own_gates items
own_gates (Part p ∷ items) = own_gates items

abbrev pub own_latches : List Item → List LatchLine
own_latches [] = []
own_latches (Gate g ∷ items) = own_latches items
own_latches (Latch l ∷ items) = l ∷ own_latches items
own_latches (Part p ∷ items) = own_latches items

abbrev pub own_lines : List Item → FlatLines
own_lines items = record { latches = own_latches items; gates = own_gates items }

-- the flat netlist of a model without instances, or its first fault, where at most `limit` lines may come
abbrev pub flat_alone : ℕ → BlifModel → Result Parts FlatFault
flat_alone limit model = if nat_le (length model.body) limit then linked model (own_lines model.body) else Err TooLarge
