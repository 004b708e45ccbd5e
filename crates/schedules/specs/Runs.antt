-- Ticks one after another: the latches hold what their sources had at the last moment before.
use Rattle.std.specs.Prelude.{◌≡◌, ℕ, ◌+◌, ◌*◌, ◌≤◌, Bool, List, [], ◌∷◌, ◌++◌, length, map, drop, All}
use Rattle.netlist.specs.declared.parts.Parts.{Parts}
use Rattle.netlist.specs.Netlists.{count, columns}
use Rattle.netlist.specs.Fixpoint.{wires, IsInitialState}
use Rattle.schedules.specs.Moments.{Moment, History, Round, bit_at, newest, after_rounds}
use Rattle.schedules.specs.Fairness.{IsFair}

-- a tick to be played: the values of its inputs, and its schedule
pub record Tick : Type 0 where
  pub inputs : List Bool
  pub rounds : List Round

-- A run to be played: how many rounds older the values may be that pins read, the moments before the first tick, with
-- what the latches and the gates start, and the ticks.
pub record Run : Type 0 where
  pub window : ℕ
  pub past : History
  pub latches : List Bool
  pub gates : List Bool
  pub ticks : List Tick

-- a tick as it was played: what its inputs and latches held, its rounds, and the history as it opened and as it ended
pub record Played : Type 0 where
  pub inputs : List Bool
  pub latches : List Bool
  pub rounds : List Round
  pub opened : History
  pub ended : History

-- the parts of a moment: the values of the gates, what the outputs show, and what the latches load
abbrev pub gates_at : Parts → Moment → List Bool
gates_at net moment = drop (columns net) moment

abbrev pub outputs_at : Parts → Moment → List Bool
outputs_at net moment = map (bit_at moment) net.outputs

abbrev pub loaded_at : Parts → Moment → List Bool
loaded_at net moment = map (λ latch. bit_at moment latch.from) net.latches

-- A tick opens with a new moment: its inputs, its latches, and the gates as they stood.
abbrev pub played : Parts → History → List Bool → List Bool → Tick → Played
played net history latches gates tick =
    let opened = wires (tick.inputs ++ latches) gates ∷ history in
    record {
      inputs = tick.inputs;
      latches = latches;
      rounds = tick.rounds;
      opened = opened;
      ended = after_rounds net opened tick.rounds;
    }

-- the ticks after this history, of which the first starts with these latches and gates
abbrev pub play : Parts → History → List Bool → List Bool → List Tick → List Played
play net history latches gates [] = []
play net history latches gates (tick ∷ ticks) =
    let first = played net history latches gates tick in
    first ∷ play net first.ended (loaded_at net (newest first.ended)) (gates_at net (newest first.ended)) ticks

-- the ticks of a run
abbrev pub ticks_of : Parts → Run → List Played
ticks_of net run = play net run.past run.latches run.gates run.ticks

-- the inputs and latches of a tick
abbrev pub vector_of : Played → List Bool
vector_of tick = tick.inputs ++ tick.latches

-- the tick has a fair schedule, of window + 1 times as many rounds as there are gates, or of more
pub record IsFairTick (net : Parts) (window : ℕ) (tick : Played) : Type 0 where
  pub inputs : length tick.inputs ≡ length net.inputs
  pub fair : IsFair net window tick.opened tick.rounds
  pub rounds : (window + 1) * length net.gates ≤ length tick.rounds

-- A run: the latches start as their inits permit, the gates anyhow, and each tick is fair.
pub record IsRun (net : Parts) (run : Run) : Type 0 where
  pub past : All (λ moment. length moment ≡ count net) run.past
  pub latches : IsInitialState net run.latches
  pub gates : length run.gates ≡ length net.gates
  pub ticks : All (IsFairTick net run.window) (ticks_of net run)

-- the inputs of a run, the latches and the outputs, tick by tick; the outputs are read at each tick's last moment
abbrev pub inputs_of : Run → List (List Bool)
inputs_of run = map (λ tick. tick.inputs) run.ticks

abbrev pub latches_of : Parts → Run → List (List Bool)
latches_of net run = map (λ tick. tick.latches) (ticks_of net run)

abbrev pub outputs_of : Parts → Run → List (List Bool)
outputs_of net run = map (λ tick. outputs_at net (newest tick.ended)) (ticks_of net run)
