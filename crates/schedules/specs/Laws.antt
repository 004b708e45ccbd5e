-- The laws of schedules and runs.
use Rattle.std.specs.Prelude.{◌≡◌, ◌≢◌, ℕ, ◌+◌, ◌*◌, ◌≤◌, Bool, List, [], ◌∷◌, length, map, All}
use Rattle.cyc_base.specs.declared.trit.Trit.TheVariants.{X}
use Rattle.cyc_base.specs.Values.{bits, Completes}
use Rattle.netlist.specs.Netlists.{columns}
use Rattle.netlist.specs.declared.parts.Parts.{Parts}
use Rattle.netlist.specs.Fixpoint.{wires, steps, fix_gates}
use Rattle.care_sets.specs.Care.{CareSet}
use Rattle.schedules.specs.Moments.{History, Round, newest, after_rounds}
use Rattle.schedules.specs.Fairness.{IsFair}
use Rattle.schedules.specs.Runs.{Tick, Run, IsRun, gates_at}
use Rattle.schedules.specs.Settling.{FromRound, Settles}

-- ticks over these inputs that make a run of one that begins so
pub record TicksOver (net : Parts) (start : Run) (values : List (List Bool)) : Type 0 where
  pub ticks : List Tick
  pub inputs : map (λ tick. tick.inputs) ticks ≡ values
  pub run : IsRun net (record start { ticks = ticks })

-- Runs exist: whatever the window, the past and the gates are, from latches as the inits permit, over all inputs.
abbrev pub RunsExist : Type 0
RunsExist = (net : Parts) (start : Run) (values : List (List Bool)) →
    IsRun net (record start { ticks = [] }) → All (λ inputs. length inputs ≡ length net.inputs) values →
    TicksOver net start values

-- A schedule that is fair with a window is so with each wider one.
abbrev pub WindowsWiden : Type 0
WindowsWiden = (net : Parts) (window wider : ℕ) (history : History) (rounds : List Round) →
    window ≤ wider → 1 ≤ length history → IsFair net window history rounds → IsFair net wider history rounds

-- In each schedule that is fair with the window w, from any past, each wire that k steps determine has that value at
-- every moment of the tick from the end of round (w + 1) * k on.
abbrev pub WindowLaw : Type 0
WindowLaw = (net : Parts) (window : ℕ) (v gates : List Bool) (past : History) (rounds : List Round) (k : ℕ) →
    length v ≡ columns net → length gates ≡ length net.gates →
    let opened = wires v gates ∷ past in
    IsFair net window opened rounds → (window + 1) * k ≤ length rounds →
    FromRound ((window + 1) * k) rounds (Completes (wires (bits v) (steps net (bits v) k))) (after_rounds net opened rounds)

-- Where the fixpoint leaves no gate unknown, all gates stand at it as the tick ends, after window + 1 times as many rounds
-- as there are gates.
abbrev pub GatesReachFix : Type 0
GatesReachFix = (net : Parts) (window : ℕ) (v gates : List Bool) (past : History) (rounds : List Round) →
    length v ≡ columns net → length gates ≡ length net.gates →
    let opened = wires v gates ∷ past in
    IsFair net window opened rounds → (window + 1) * length net.gates ≤ length rounds →
    All (λ value. value ≢ X) (fix_gates net (bits v)) →
    bits (gates_at net (newest (after_rounds net opened rounds))) ≡ fix_gates net (bits v)

-- so each netlist settles
abbrev pub NetlistsSettle : Type 0
NetlistsSettle = (net : Parts) (care : CareSet) → Settles net care
