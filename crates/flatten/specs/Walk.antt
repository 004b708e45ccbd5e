-- The walk through a hierarchy, in the order of the text, and the lines that it comes to.
use Rattle.std.specs.Prelude.{ℕ, zero, suc, List, [], ◌∷◌, ◌++◌, Ok, Err}
use Rattle.std.specs.declared.result.Result.{Result}
use Rattle.blif_read.specs.declared.models.BlifModel.{BlifModel}
use Rattle.blif_read.specs.declared.models.GateLine.{GateLine}
use Rattle.blif_read.specs.declared.models.LatchLine.{LatchLine}
use Rattle.blif_read.specs.declared.models.Item.{Item}
use Rattle.blif_read.specs.declared.models.Item.TheVariants.{Gate, Latch, Part}
use Rattle.flatten.specs.declared.fault.FlatFault.{FlatFault}
use Rattle.flatten.specs.declared.fault.FlatFault.TheVariants.{TooLarge}
use Rattle.flatten.specs.Wires.{mark_of}
use Rattle.flatten.specs.Paths.{Instance, gate_at, latch_at}
use Rattle.flatten.specs.Instances.{model_at, entered}

-- what the walk comes to: a gate, a latch, an instance that it enters, or a fault. It goes on behind a fault.
pub data Event : Type 0 where
  gate : GateLine → Event
  latch : LatchLine → Event
  opens : Event
  fails : FlatFault → Event

-- through an instance: `deeper` is the walk through the bodies below
abbrev pub through : (List Instance → List Item → List Event) → List BlifModel → List Instance → Result ℕ FlatFault → List Event
through deeper models path (Err fault) = fails fault ∷ []
through deeper models path (Ok i) = opens ∷ deeper path (model_at models i).body

-- through the items of a body on this path, the next `.subckt` line of which is number n
abbrev pub events_by : (List Instance → List Item → List Event) → ℕ → List BlifModel → List ℕ → List ℕ → List Instance → ℕ → List Item → List Event
events_by deeper depth models top m path n [] = []
events_by deeper depth models top m path n (Gate g ∷ items) =
    gate (gate_at m path g) ∷ events_by deeper depth models top m path n items
events_by deeper depth models top m path n (Latch l ∷ items) =
    latch (latch_at m path l) ∷ events_by deeper depth models top m path n items
events_by deeper depth models top m path n (Part p ∷ items) =
    through deeper models (record { number = n; part = p } ∷ path) (entered depth models top path p)
    ++ events_by deeper depth models top m path (suc n) items

-- the same, where so many more levels may open
abbrev pub events : ℕ → ℕ → List BlifModel → List ℕ → List ℕ → List Instance → ℕ → List Item → List Event
events zero depth models top m path n items = events_by (λ inner body. []) depth models top m path n items
events (suc more) depth models top m path n items =
    events_by (λ inner body. events more depth models top m inner 1 body) depth models top m path n items

-- the latches and the gates of a flat netlist, by their printed names
pub record FlatLines : Type 0 where
  pub latches : List LatchLine
  pub gates : List GateLine

abbrev pub then_gate : GateLine → Result FlatLines FlatFault → Result FlatLines FlatFault
then_gate g (Ok lines) = Ok (record { latches = lines.latches; gates = g ∷ lines.gates })
then_gate g (Err fault) = Err fault

abbrev pub then_latch : LatchLine → Result FlatLines FlatFault → Result FlatLines FlatFault
then_latch l (Ok lines) = Ok (record { latches = l ∷ lines.latches; gates = lines.gates })
then_latch l (Err fault) = Err fault

-- the lines of a walk or its first fault, where `room` gates, latches and instances may come
abbrev pub decided : ℕ → List Event → Result FlatLines FlatFault
decided room [] = Ok (record { latches = []; gates = [] })
decided room (fails fault ∷ rest) = Err fault
decided zero (gate g ∷ rest) = Err TooLarge
decided (suc room) (gate g ∷ rest) = then_gate g (decided room rest)
decided zero (latch l ∷ rest) = Err TooLarge
decided (suc room) (latch l ∷ rest) = then_latch l (decided room rest)
decided zero (opens ∷ rest) = Err TooLarge
decided (suc room) (opens ∷ rest) = decided room rest

-- the lines of the hierarchy below the model at this place
abbrev pub flat_lines : ℕ → ℕ → List BlifModel → ℕ → Result FlatLines FlatFault
flat_lines depth limit models i =
    decided limit (events depth depth models (model_at models i).name (mark_of models) [] 1 (model_at models i).body)
