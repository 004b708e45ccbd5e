-- What the probes that are handed in hear of a call. Here P is the type of a probe.
use Rattle.std.specs.Prelude.{◌≡◌, ◌⊎◌, ℕ, Bool, List, Some, None}
use Rattle.std.specs.declared.option.Option.{Option}
use Rattle.netlist.specs.declared.parts.Parts.{Parts}
use Rattle.delay_core.specs.declared.change.Change.{Change}
use Rattle.delay_core.specs.declared.plan.Schedule.{Schedule}
use Rattle.delay_core.specs.Changes.{changes}
use Rattle.probes.specs.Hearing.{EachHearsPrefix}
use Rattle.commands.specs.declared.kind.Kind.{Kind}
use Rattle.commands.specs.Words.{Command, Delays}
use Rattle.plain_commands.specs.Shelves.{ShelfCall}
use Rattle.plain_commands.specs.Plans.{Plan, playing, replaying}
use Rattle.plain_commands.specs.Reading.{LeadsTo}
use Rattle.plain_commands.specs.Requests.{Shows}

-- Each probe of the wanted kind heard these changes, or some first ones where the call gave up. The others are as they
-- were, and so are all where no kind is wanted.
abbrev pub HearRun : {P : Type 0} → (P → Kind) → (P → List Change) → (P → List Change → Parts → List ℕ) → Option Kind → List P → List P → List Change → Type 0
HearRun kind heard text None old new told = new ≡ old
HearRun kind heard text (Some wanted) old new told = EachHearsPrefix kind heard text wanted told old new

-- A call came along its plan, whatever the probes show, to a run of whose changes this is so.
pub record CameToRun (plan : Shows → Plan) (shelf : ShelfCall) (probe : Option Kind) (Q : List Change → Type 0) : Type 0 where
  pub recorded : List ℕ
  pub net : Parts
  pub vectors : List (List Bool)
  pub schedule : Schedule
  pub leads : (shows : Shows) → LeadsTo (plan shows) (playing shows probe recorded net vectors schedule) shelf
  pub told : Q (changes net schedule vectors)

-- The probes heard of the run to which the call came, or nothing where it came to none.
abbrev pub HearPlay : {P : Type 0} → (P → Kind) → (P → List Change) → (P → List Change → Parts → List ℕ) → Option Kind → (Shows → Plan) → ShelfCall → List P → List P → Type 0
HearPlay kind heard text probe plan shelf old new = (new ≡ old) ⊎ CameToRun plan shelf probe (HearRun kind heard text probe old new)

-- They hear of no other command than `delays`.
abbrev pub HearCommand : {P : Type 0} → (P → Kind) → (P → List Change) → (P → List Change → Parts → List ℕ) → Option Command → ShelfCall → List P → List P → Type 0
HearCommand kind heard text (Some (Delays file vectors recorded probe)) shelf old new =
    HearPlay kind heard text probe (λ shows. replaying shows probe file vectors recorded) shelf old new
HearCommand kind heard text other shelf old new = new ≡ old
