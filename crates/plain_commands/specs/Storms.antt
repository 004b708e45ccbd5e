-- What `storm` prints of a vector: its inputs, as a comment, and its storm as a schedule file.
use Rattle.std.specs.Prelude.{◌≡◌, ◌<◌, ℕ, Bool, List, [], ◌∷◌, ◌++◌, ◌^◌, ◌-◌, length, take, min, codes, nat_le, if◌then◌else◌}
use Rattle.cyc_base.specs.declared.trit.Trit.TheVariants.{X}
use Rattle.cyc_base.specs.Values.{bits}
use Rattle.cyc_io.specs.Bits.{bits_text}
use Rattle.netlist.specs.declared.parts.Parts.{Parts}
use Rattle.netlist.specs.Fixpoint.{wire, fix}
use Rattle.netlist.specs.Netlists.{gate_sig}
use Rattle.sched_text.specs.Written.{written}
use Rattle.storm.specs.Plans.{plan_at}
use Rattle.storm.specs.Storms.{most_events, storm_events, storm_of}
use Rattle.refusals.specs.declared.refusal.Refusal.{Refusal}
use Rattle.refusals.specs.declared.refusal.Refusal.TheVariants.{Undetermined}
use Rattle.report.specs.Verdicts.{refusal_text}
use Rattle.plain_commands.specs.Plans.{Ending, Prints, Declines, Outgrows}

abbrev pub bits_or_dash : List Bool → List ℕ
bits_or_dash [] = codes "-"
bits_or_dash (b ∷ v) = bits_text (b ∷ v)

-- the inputs of a vector
abbrev pub inputs_line : Parts → List Bool → List ℕ
inputs_line net v = codes "# inputs " ++ (bits_or_dash (take (length net.inputs) v) ++ codes "\n")

abbrev pub storm_text : Parts → List Bool → ℕ → List ℕ
storm_text net v rounds = inputs_line net v ++ written net (storm_of net v rounds)

-- a gate is unknown in the fixpoint at this vector
pub record LeavesUnknown (net : Parts) (v : List Bool) : Type 0 where
  pub gate : ℕ
  pub within : gate < length net.gates
  pub unknown : wire (fix net (bits v)) (gate_sig net gate) ≡ X

-- how many events the storm of a vector has
abbrev pub events_of : Parts → List Bool → ℕ → ℕ
events_of net v rounds = storm_events net (plan_at net (fix net (bits v))) rounds

-- the number that is told where they are too many
abbrev pub events_told : ℕ → ℕ
events_told events = min events (2 ^ 64 - 1)

-- the storm of a vector, unless it has too many events
abbrev pub storm_told : Parts → ℕ → List Bool → Ending
storm_told net rounds v =
    if nat_le (events_of net v rounds) most_events then Prints (storm_text net v rounds) else Outgrows (events_told (events_of net v rounds))

-- only a refused wire has a storm
abbrev pub storm_or_refusal : Parts → ℕ → Refusal → Ending
storm_or_refusal net rounds (Undetermined v wire) = storm_told net rounds v
storm_or_refusal net rounds refused = Declines (refusal_text net refused)
