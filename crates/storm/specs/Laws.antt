-- The theorem of storms, and that least values are least.
use Rattle.std.specs.Prelude.{◌≡◌, ◌<◌, ℕ, Bool, true, false, not, List, [], ◌∷◌, ◌++◌, length, All, take, min, ◌^◌, ◌-◌, Some, None}
use Rattle.cyc_base.specs.declared.trit.Trit.{Trit}
use Rattle.cyc_base.specs.declared.trit.Trit.TheVariants.{X}
use Rattle.cyc_base.specs.Values.{bits, Completes}
use Rattle.netlist.specs.declared.parts.Parts.{Parts}
use Rattle.netlist.specs.Netlists.{IsNetlist, count, gate_sig, columns}
use Rattle.netlist.specs.Fixpoint.{wire, fix}
use Rattle.schedules.specs.declared.event.Event.{Event}
use Rattle.schedules.specs.Moments.{History, Round, bit_at, newest, event_value, after_events}
use Rattle.schedules.specs.Fairness.{IsFair}
use Rattle.schedules.specs.Runs.{Played, ticks_of}
use Rattle.delay_core.specs.declared.plan.PlannedEvent.{PlannedEvent}
use Rattle.delay_core.specs.declared.plan.RoundPlan.{RoundPlan}
use Rattle.delay_core.specs.declared.plan.Schedule.{Schedule}
use Rattle.delay_core.specs.Plans.{schedule_fault, run_of}
use Rattle.storm.specs.declared.fault.StormFault.{StormFault}
use Rattle.storm.specs.declared.fault.StormFault.TheVariants.{TooLarge}
use Rattle.storm.specs.Least.{first_where, IsLeastWhere}
use Rattle.storm.specs.Plans.{plan_at, storm_plan}
use Rattle.storm.specs.Storms.{storm_of, most_events}

-- behind this history an event of the gate changes it to this value
pub record ChangesTo (net : Parts) (gate : ℕ) (value : Bool) (history : History) (event : Event) : Type 0 where
  pub of : event.gate ≡ gate
  pub before : bit_at (newest history) (gate_sig net gate) ≡ not value
  pub gives : event_value net history event ≡ value

-- a round, behind this history, has an event that changes the gate to 0, and a later one that changes it to 1
pub record FallsAndRises (net : Parts) (gate : ℕ) (history : History) (round : Round) : Type 0 where
  pub before : List Event
  pub fall : Event
  pub between : List Event
  pub rise : Event
  pub after : List Event
  pub order : round ≡ before ++ (fall ∷ (between ++ (rise ∷ after)))
  pub falls : ChangesTo net gate false (after_events net history before) fall
  pub rises : ChangesTo net gate true (after_events net history (before ++ (fall ∷ between))) rise

-- a fact of each round, and of the history behind which it comes
abbrev pub EachRound : Parts → (History → Round → Type 0) → History → List Round → Type 0
EachRound net P history [] = Unit {0}
EachRound net P history (round ∷ rounds) = P history round × EachRound net P (after_events net history round) rounds

-- A tick of a vector on which nothing comes to rest that the fixpoint doesn't determine: its schedule is fair with the
-- window 1, each gate that is unknown in the fixpoint falls and rises in each round, and every other signal has its value
-- of the fixpoint at every moment, in the past too.
pub record IsStorm (net : Parts) (v : List Bool) (tick : Played) : Type 0 where
  pub fair : IsFair net 1 tick.opened tick.rounds
  pub shakes : (n : ℕ) → n < length net.gates → wire (fix net (bits v)) (gate_sig net n) ≡ X → EachRound net (FallsAndRises net n) tick.opened tick.rounds
  pub rests : All (Completes (fix net (bits v))) tick.ended

-- the inputs of a vector
abbrev pub inputs_in : Parts → List Bool → List Bool
inputs_in net v = take (length net.inputs) v

-- a schedule that can be played over one vector of inputs, and whose text can be written
pub record FitsOneTick (net : Parts) (schedule : Schedule) : Type 0 where
  pub past : All (λ moment. length moment ≡ count net) schedule.past
  pub latches : length schedule.latches ≡ length net.latches
  pub gates : length schedule.gates ≡ length net.gates
  pub ticks : length schedule.ticks ≡ 1
  pub events : All (All (λ (round : RoundPlan). All (λ (planned : PlannedEvent). planned.event.gate < length net.gates) round.events)) schedule.ticks

-- a schedule that is played over the inputs of a vector without a fault, and is a storm
pub record PlaysAsStorm (net : Parts) (v : List Bool) (schedule : Schedule) : Type 0 where
  pub fits : FitsOneTick net schedule
  pub no_fault : schedule_fault net schedule (inputs_in net v ∷ []) ≡ None
  pub storm : All (IsStorm net v) (ticks_of net (run_of schedule (inputs_in net v ∷ [])))

-- the theorem of storms
abbrev pub StormsNeverRest : Type 0
StormsNeverRest = (net : Parts) (v : List Bool) (rounds : ℕ) →
    IsNetlist net → length v ≡ columns net → PlaysAsStorm net v (storm_of net v rounds)

-- a vector whose fixpoint leaves a gate unknown has a plan
abbrev pub UnknownGatesHavePlans : Type 0
UnknownGatesHavePlans = (net : Parts) (v : List Bool) (n : ℕ) → n < length net.gates →
    wire (fix net (bits v)) (gate_sig net n) ≡ X → storm_plan net v ≡ Some (plan_at net (fix net (bits v)))

-- the fault of a storm that would have so many events, which are too many: their number, or the greatest one of 64 bits
pub record IsTooLarge (events : ℕ) (fault : StormFault) : Type 0 where
  pub over : most_events < events
  pub is : fault ≡ TooLarge (min events (2 ^ 64 - 1))

-- the first completion with a value is the least one
abbrev pub FirstIsLeast : Type 0
FirstIsLeast = (f : List Bool → Bool) (wanted : Bool) (trits : List Trit) (bs : List Bool) →
    first_where f wanted trits ≡ Some bs → IsLeastWhere f wanted trits bs
