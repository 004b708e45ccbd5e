-- What a user has of an accepted netlist: in all its runs it does what the ternary fixpoint says.
use Rattle.std.specs.Prelude.{ℕ, All}
use Rattle.netlist.specs.declared.parts.Parts.{Parts}
use Rattle.netlist.specs.Netlists.{IsNetlist}
use Rattle.care_sets.specs.Care.{CareSet, IsCareVector}
use Rattle.refusals.specs.declared.observe.Observe.{Observe}
use Rattle.refusals.specs.Acceptance.{Accepts, observed}
use Rattle.schedules.specs.Runs.{Run, Played, IsRun, ticks_of, vector_of}
use Rattle.schedules.specs.Settling.{OnceSettled, IsWithinCare, Settles}
use Rattle.schedules.specs.Accepted.{StandAtFix, FollowsFix}

-- A fact of each tick of each run within care, with the run's window: whatever its inputs, its past, its window, its
-- starting values and its fair schedules are.
abbrev pub InEachRun : Parts → CareSet → (ℕ → Played → Type 0) → Type 0
InEachRun net care P = (run : Run) → IsRun net run → IsWithinCare net care run → All (P run.window) (ticks_of net run)

pub record IsHarmless (net : Parts) (care : CareSet) (what : Observe) : Type 0 where
  -- it is accepted, by all four parts
  pub accepts : Accepts net care what
  -- in each run each tick has a care vector: the invariant is kept
  pub keeps_care : InEachRun net care (λ window tick. IsCareVector net care (vector_of tick))
  -- from the end of round (window + 1) * G on, all observed wires hold the fixpoint of the tick's vector, which knows them
  pub observed_settle : InEachRun net care (λ window tick. OnceSettled net window (StandAtFix net (vector_of tick) (observed net what)) tick)
  -- and each other wire that the fixpoint determines
  pub settles : Settles net care
  -- what a tick shows and loads is what the fixpoint says
  pub follows : InEachRun net care (λ window tick. FollowsFix net tick)

abbrev pub AcceptedIsHarmless : Type 0
AcceptedIsHarmless = (net : Parts) (care : CareSet) (what : Observe) → IsNetlist net → Accepts net care what → IsHarmless net care what
