-- What accepted netlists do in their runs: the laws.
use Rattle.std.specs.Prelude.{◌≡◌, ℕ, Bool, List, All}
use Rattle.cyc_base.specs.declared.sig.Sig.{Sig}
use Rattle.cyc_base.specs.Values.{bit, bits, EachBelow}
use Rattle.netlist.specs.declared.parts.Parts.{Parts}
use Rattle.netlist.specs.Netlists.{IsNetlist}
use Rattle.netlist.specs.Fixpoint.{wire, fix, outs, next}
use Rattle.care_sets.specs.Care.{CareSet, IsCareVector}
use Rattle.refusals.specs.declared.observe.Observe.{Observe}
use Rattle.refusals.specs.Acceptance.{Accepts, observed}
use Rattle.schedules.specs.Moments.{Moment, bit_at, newest}
use Rattle.schedules.specs.Runs.{Run, Played, IsRun, ticks_of, vector_of, inputs_of, latches_of, outputs_of, outputs_at, loaded_at}
use Rattle.schedules.specs.Settling.{OnceSettled, IsWithinCare, HasSameInterface, Same}
use Rattle.schedules.specs.Machines.{Machine, states_over, shown_over, FitsFixpoint}

-- a fact of each tick of each run within care of an accepted netlist, with the run's window
abbrev pub InAcceptedRuns : (Parts → CareSet → Observe → ℕ → Played → Type 0) → Type 0
InAcceptedRuns P = (net : Parts) (care : CareSet) (what : Observe) (run : Run) →
    Accepts net care what → IsRun net run → IsWithinCare net care run →
    All (P net care what run.window) (ticks_of net run)

-- the vector of each tick counts
abbrev pub CareIsKept : Type 0
CareIsKept = InAcceptedRuns (λ net care what window tick. IsCareVector net care (vector_of tick))

-- at this moment these signals have the values of the fixpoint of this vector
abbrev pub StandAtFix : Parts → List Bool → List Sig → Moment → Type 0
StandAtFix net v signals moment = All (λ s. bit (bit_at moment s) ≡ wire (fix net (bits v)) s) signals

-- All observed signals stand at the fixpoint after (w + 1) times as many rounds as there are gates.
abbrev pub ObservedSettle : Type 0
ObservedSettle = InAcceptedRuns (λ net care what window tick.
    OnceSettled net window (StandAtFix net (vector_of tick) (observed net what)) tick)

-- what a tick shows and loads is what the fixpoint of its vector says
pub record FollowsFix (net : Parts) (tick : Played) : Type 0 where
  pub outputs : bits (outputs_at net (newest tick.ended)) ≡ outs net (bits (vector_of tick))
  pub loads : bits (loaded_at net (newest tick.ended)) ≡ next net (bits (vector_of tick))

abbrev pub RunsFollowFix : Type 0
RunsFollowFix = InAcceptedRuns (λ net care what window tick. IsNetlist net → FollowsFix net tick)

-- So a run shows and loads what each machine does that says at care vectors what the fixpoint does: nothing depends on
-- the schedules.
abbrev pub RunsAreMachines : Type 0
RunsAreMachines = (net : Parts) (care : CareSet) (what : Observe) (machine : Machine) (run : Run) →
    IsNetlist net → Accepts net care what → FitsFixpoint net care machine → IsRun net run → IsWithinCare net care run →
    (outputs_of net run ≡ shown_over machine run.latches (inputs_of run))
    × (latches_of net run ≡ states_over machine run.latches (inputs_of run))

-- on each care vector the fixpoint of the other netlist tells of the outputs and of what latches load at least what that
-- of this one does
pub record TellsAsMuch (net other : Parts) (care : CareSet) : Type 0 where
  pub outputs : (v : List Bool) → IsCareVector net care v → EachBelow (outs net (bits v)) (outs other (bits v))
  pub loads : (v : List Bool) → IsCareVector net care v → EachBelow (next net (bits v)) (next other (bits v))

-- Then it shows the same in all runs.
abbrev pub SameByFixpoints : Type 0
SameByFixpoints = (net other : Parts) (care : CareSet) (what : Observe) →
    IsNetlist net → Accepts net care what → HasSameInterface net other → TellsAsMuch net other care →
    Same net other care
