-- What flattening asks of models.
use Rattle.std.specs.Prelude.{◌≡◌, ◌≢◌, ◌≤◌, List, length, codes, All, AllPairs, Some, None}
use Rattle.std.specs.declared.option.Option.{Option}
use Rattle.cyc_base.specs.Names.{IsBlifName}
use Rattle.netlist.specs.declared.parts.Clock.{Clock}
use Rattle.blif_read.specs.declared.models.BlifModel.{BlifModel}
use Rattle.blif_read.specs.declared.models.GateLine.{GateLine}
use Rattle.blif_read.specs.declared.models.LatchLine.{LatchLine}
use Rattle.blif_read.specs.declared.models.PartLine.{PartLine}
use Rattle.blif_read.specs.declared.models.Item.{Item}
use Rattle.blif_read.specs.declared.models.Item.TheVariants.{Gate, Latch, Part}

pub record IsSoundGate (gate : GateLine) : Type 0 where
  pub pins : All IsBlifName gate.pins
  pub output : IsBlifName gate.output
  pub width : length gate.pins ≡ gate.cover.pins

-- a control that isn't named `NIL`
abbrev pub IsSoundControl : Option Clock → Type 0
IsSoundControl None = Unit {0}
IsSoundControl (Some clock) = IsBlifName clock.name × (clock.name ≢ codes "NIL")

pub record IsSoundLatch (latch : LatchLine) : Type 0 where
  pub from : IsBlifName latch.from
  pub output : IsBlifName latch.output
  pub control : IsSoundControl latch.control

pub record IsSoundPart (part : PartLine) : Type 0 where
  pub model : IsBlifName part.model
  pub pairs : All (λ pair. IsBlifName pair.0 × IsBlifName pair.1) part.pairs

abbrev pub IsSoundItem : Item → Type 0
IsSoundItem (Gate gate) = IsSoundGate gate
IsSoundItem (Latch latch) = IsSoundLatch latch
IsSoundItem (Part part) = IsSoundPart part

pub record IsSoundModel (model : BlifModel) : Type 0 where
  pub name : IsBlifName model.name
  pub inputs : All IsBlifName model.inputs
  pub outputs : All IsBlifName model.outputs
  pub clocks : All IsBlifName model.clocks
  pub body : All IsSoundItem model.body
  pub few_inputs : length model.inputs ≤ 4000000000

-- all names are BLIF names, the models' names differ, each gate has as many pins as its cover, no control is
-- named `NIL`, and no model has over 4,000,000,000 inputs
pub record CanBeFlattened (models : List BlifModel) : Type 0 where
  pub sound : All IsSoundModel models
  pub names_differ : AllPairs (λ (a b : BlifModel). a.name ≢ b.name) models
