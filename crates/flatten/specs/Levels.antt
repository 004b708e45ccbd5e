-- The walk on a list: the instances that are open, and what is still to come.
use Rattle.std.specs.Prelude.{◌*◌, ◌^◌, ◌≡◌, ◌≢◌, ℕ, suc, ◌+◌, ◌-◌, ◌<◌, ◌≤◌, ◌||◌, nat_le, List, [], ◌∷◌, ◌++◌, length, map, drop, reverse, Some, None, Ok, Err, option_map}
use Rattle.std.specs.List.{list_any}
use Rattle.std.specs.Str.{bytes_eq}
use Rattle.std.specs.Fmt.{decimal}
use Rattle.std.specs.declared.result.Result.{Result}
use Rattle.netlist.specs.declared.parts.Clock.{Clock}
use Rattle.blif_read.specs.declared.models.BlifModel.{BlifModel}
use Rattle.blif_read.specs.declared.models.GateLine.{GateLine}
use Rattle.blif_read.specs.declared.models.LatchLine.{LatchLine}
use Rattle.blif_read.specs.declared.models.PartLine.{PartLine}
use Rattle.blif_read.specs.declared.models.Item.{Item}
use Rattle.flatten.specs.declared.fault.FlatFault.{FlatFault}
use Rattle.flatten.specs.declared.scope.NameScope.{NameScope}
use Rattle.flatten.specs.declared.walk.Level.{Level}
use Rattle.flatten.specs.declared.walk.FlatBody.{FlatBody}
use Rattle.flatten.specs.declared.walk.Walk.{Walk}
use Rattle.flatten.specs.Wires.{mark_of}
use Rattle.flatten.specs.Paths.{Instance}
use Rattle.flatten.specs.Instances.{find_model, model_at, entry, pairs_fault}
use Rattle.flatten.specs.Walk.{Event, FlatLines, events, decided}
use Rattle.flatten.specs.Laws.{prefix_of, resolved, bound, table_of}
use Rattle.flatten.specs.Hierarchies.{NestedModels}
use Rattle.flatten.specs.Alone.{own_gates, own_latches}

-- lines by a table and a prefix
abbrev pub gate_by : List ℕ → List (List ℕ × List ℕ) → GateLine → GateLine
gate_by prefix table gate = record {
  pins = map (resolved prefix table) gate.pins;
  output = resolved prefix table gate.output;
  cover = gate.cover;
}

abbrev pub clock_by : List ℕ → List (List ℕ × List ℕ) → Clock → Clock
clock_by prefix table clock = record { edge = clock.edge; name = resolved prefix table clock.name }

abbrev pub latch_by : List ℕ → List (List ℕ × List ℕ) → LatchLine → LatchLine
latch_by prefix table latch = record {
  from = resolved prefix table latch.from;
  output = resolved prefix table latch.output;
  control = option_map (clock_by prefix table) latch.control;
  init = latch.init;
}

-- `entered` in an open level, by this level and those below it
abbrev pub entered_on : ℕ → List BlifModel → List Level → Level → PartLine → Result ℕ FlatFault
entered_on depth models below level part =
    entry part.model
    (bytes_eq (model_at models level.model).name part.model || list_any (λ l. bytes_eq (model_at models l.model).name part.model) below)
    (nat_le depth (length below)) (λ i. pairs_fault (model_at models i) part.pairs) (find_model models part.model)

-- the instance can be entered there
abbrev pub CanEnter : ℕ → List BlifModel → List Level → Level → PartLine → Type 0
CanEnter depth models below level part = (i : ℕ) × (entered_on depth models below level part ≡ Ok i)

-- the model of the instance is in the file, and its pairs have no fault
abbrev pub FitsSome : List BlifModel → PartLine → Type 0
FitsSome models part = (i : ℕ) × (find_model models part.model ≡ Some i) × (pairs_fault (model_at models i) part.pairs ≡ None)

-- a level behind its next gate or latch, and behind its next instance
abbrev pub passed_line : Level → Level
passed_line level = record level { next = level.next + 1 }

abbrev pub passed_part : Level → Level
passed_part level = record level { next = level.next + 1; parts = level.parts + 1 }

-- the level of an instance that has just been entered
pub record IsInner (m : List ℕ) (level : Level) (part : PartLine) (inner : Level) : Type 0 where
  pub next : inner.next ≡ 0
  pub parts : inner.parts ≡ 0
  pub prefix : inner.scope.prefix ≡ level.scope.prefix ++ (decimal (level.parts + 1) ++ m)
  pub table : inner.scope.table.entries ≡ bound level.scope.prefix level.scope.table.entries part.pairs

-- what entering an instance does to the levels
pub record Enters (depth : ℕ) (models : List BlifModel) (m : List ℕ) (old : List Level) (level : Level) (part : PartLine) (new : List Level) (inner : Level) : Type 0 where
  pub levels : new ≡ (old ++ (passed_part level ∷ [])) ++ (inner ∷ [])
  pub model : entered_on depth models old level part ≡ Ok inner.model
  pub inside : IsInner m level part inner

-- a level stands for this path
pub record IsAt (models : List BlifModel) (m : List ℕ) (level : Level) (path : List Instance) : Type 0 where
  pub within : level.model < length models
  pub counted : level.parts ≤ level.next
  pub prefix : level.scope.prefix ≡ prefix_of m path
  pub table : level.scope.table.entries ≡ table_of m path

abbrev pub remaining : ℕ → List BlifModel → List ℕ → List ℕ → Level → List Instance → List Event
remaining depth models top m level path =
    events (depth - length path) depth models top m path (suc level.parts) (drop level.next (model_at models level.model).body)

-- these levels, the innermost first, are open along this path, and this is still to come
abbrev pub Waits : ℕ → List BlifModel → List ℕ → List ℕ → List Level → List Instance → List Event → Type 0
Waits depth models top m [] path rest = rest ≡ []
Waits depth models top m (level ∷ below) [] rest =
    IsAt models m level [] × ((model_at models level.model).name ≡ top) × (below ≡ []) × (rest ≡ remaining depth models top m level [])
Waits depth models top m (level ∷ below) (o ∷ up) rest =
    IsAt models m level (o ∷ up) × ((model_at models level.model).name ≡ o.part.model) × ((later : List Event) × Waits depth models top m below up later × (below ≢ []) × (rest ≡ remaining depth models top m level (o ∷ up) ++ later))

abbrev pub then_lines : List LatchLine → List GateLine → Result FlatLines FlatFault → Result FlatLines FlatFault
then_lines latches gates (Ok more) = Ok (record { latches = latches ++ more.latches; gates = gates ++ more.gates })
then_lines latches gates (Err fault) = Err fault

-- between two steps: the answer is that of the lines so far and of what is still to come
pub record Walking (depth : ℕ) (models : List BlifModel) (top m : List ℕ) (levels : List Level) (latches : List LatchLine) (gates : List GateLine) (room : ℕ) (answer : Result FlatLines FlatFault) : Type 0 where
  pub path : List Instance
  pub rest : List Event
  pub waits : Waits depth models top m (reverse levels) path rest
  pub answers : answer ≡ then_lines latches gates (decided room rest)

-- what putting a level back does, alone and below the level of an instance
pub record PutsBack (old : Walk) (level : Level) (new : Walk) : Type 0 where
  pub levels : new.levels.items ≡ old.levels.items ++ (passed_line level ∷ [])
  pub latches : new.latches.items ≡ old.latches.items
  pub gates : new.gates.items ≡ old.gates.items
  pub left : new.room ≡ old.room

pub record Opens (old : Walk) (level inner : Level) (new : Walk) : Type 0 where
  pub levels : new.levels.items ≡ (old.levels.items ++ (passed_part level ∷ [])) ++ (inner ∷ [])
  pub latches : new.latches.items ≡ old.latches.items
  pub gates : new.gates.items ≡ old.gates.items
  pub left : new.room ≡ old.room - 1

-- what adding a gate or a latch to the lines does; of an instance nothing is added
pub record AddsLine (old : Walk) (scope : NameScope) (line : Item) (new : Walk) : Type 0 where
  pub some : 0 < old.room
  pub left : new.room ≡ old.room - 1
  pub levels : new.levels.items ≡ old.levels.items
  pub latches : new.latches.items ≡ old.latches.items ++ map (latch_by scope.prefix scope.table.entries) (own_latches (line ∷ []))
  pub gates : new.gates.items ≡ old.gates.items ++ map (gate_by scope.prefix scope.table.entries) (own_gates (line ∷ []))

-- what passing it does, and what passing an instance does
pub record PassesLine (old : Walk) (level : Level) (line : Item) (new : Walk) : Type 0 where
  pub some : 0 < old.room
  pub left : new.room ≡ old.room - 1
  pub levels : new.levels.items ≡ old.levels.items ++ (passed_line level ∷ [])
  pub latches : new.latches.items ≡ old.latches.items ++ map (latch_by level.scope.prefix level.scope.table.entries) (own_latches (line ∷ []))
  pub gates : new.gates.items ≡ old.gates.items ++ map (gate_by level.scope.prefix level.scope.table.entries) (own_gates (line ∷ []))

pub record PassesPart (depth : ℕ) (models : List BlifModel) (m : List ℕ) (old : Walk) (level : Level) (part : PartLine) (new : Walk) : Type 0 where
  pub some : 0 < old.room
  pub number : level.parts + 1 < 2 ^ 64
  pub left : new.room ≡ old.room - 1
  pub inner : Level
  pub enters : Enters depth models m old.levels.items level part new.levels.items inner
  pub latches : new.latches.items ≡ old.latches.items
  pub gates : new.gates.items ≡ old.gates.items

-- the walk at these values
abbrev pub WalkingAt : ℕ → List BlifModel → List ℕ → List ℕ → Result FlatLines FlatFault → Walk → Type 0
WalkingAt depth models top m answer walk =
    Walking depth models top m walk.levels.items walk.latches.items walk.gates.items walk.room answer

-- the walk with one more level
abbrev pub WalkingWith : ℕ → List BlifModel → List ℕ → List ℕ → Result FlatLines FlatFault → Walk → Level → Type 0
WalkingWith depth models top m answer walk level =
    Walking depth models top m (walk.levels.items ++ (level ∷ [])) walk.latches.items walk.gates.items walk.room answer

-- a walk that was begun somewhere, and has no fault
abbrev pub Goes : NestedModels → Walk → Level → Type 0
Goes h walk level =
    (top : List ℕ) × ((lines : FlatLines) × WalkingWith h.depth h.models top (mark_of h.models) (Ok lines) walk level)

-- a step leads on, and less is left to do
abbrev pub StepsOn : NestedModels → Walk → Level → Walk → Type 0
StepsOn h old level new =
    (top : List ℕ) (answer : Result FlatLines FlatFault) → WalkingWith h.depth h.models top (mark_of h.models) answer old level
    → WalkingAt h.depth h.models top (mark_of h.models) answer new × (new.room * 2 + length new.levels.items < old.room * 2 + (length old.levels.items + 1))

-- a walk that stands before the first item of the model at this place
pub record IsBegun (model room : ℕ) (walk : Walk) : Type 0 where
  pub level : Level
  pub levels : walk.levels.items ≡ level ∷ []
  pub place : level.model ≡ model
  pub next : level.next ≡ 0
  pub parts : level.parts ≡ 0
  pub prefix : level.scope.prefix ≡ []
  pub table : level.scope.table.entries ≡ []
  pub latches : walk.latches.items ≡ []
  pub gates : walk.gates.items ≡ []
  pub room_is : walk.room ≡ room

-- the lines that were collected
abbrev pub lines_of : FlatBody → FlatLines
lines_of lines = record { latches = lines.latches.items; gates = lines.gates.items }
