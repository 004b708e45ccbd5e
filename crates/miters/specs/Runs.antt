-- What two netlists that agree show in their runs.
use Rattle.std.specs.Prelude.{◌≡◌, ℕ, Bool, false, List, map, position, slice_index_or}
use Rattle.std.specs.Str.{bytes_eq}
use Rattle.netlist.specs.declared.parts.Parts.{Parts}
use Rattle.netlist.specs.Netlists.{IsNetlist, output_names}
use Rattle.care_sets.specs.Binding.{IsCareOf}
use Rattle.care_sets.specs.Care.{CareSet}
use Rattle.schedules.specs.Runs.{Run, IsRun, inputs_of, latches_of, outputs_of}
use Rattle.schedules.specs.Settling.{IsWithinCare}
use Rattle.miters.specs.declared.answer.Answer.TheVariants.{Equal}
use Rattle.miters.specs.Matching.{latch_name}
use Rattle.miters.specs.Differences.{number_or_0, comparison, HaveOneSource}

-- values for these names, as values for those, by name
abbrev pub renamed : List (List ℕ) → List (List ℕ) → List Bool → List Bool
renamed from to values = map (λ name. slice_index_or values (number_or_0 (position (bytes_eq name) from)) false) to

abbrev pub latch_names : Parts → List (List ℕ)
latch_names net = map latch_name net.latches

-- two runs show equal outputs and have equal latches at each tick, by name
pub record ShowAlike (a b : Parts) (run twin : Run) : Type 0 where
  pub outputs : outputs_of b twin ≡ map (renamed (output_names a) (output_names b)) (outputs_of a run)
  pub latches : latches_of b twin ≡ map (renamed (latch_names a) (latch_names b)) (latches_of a run)

-- each run of the one within care and each run of the other do so, over equal inputs and from equal latches, whatever
-- their windows and their fair schedules
abbrev pub RunAlike : Parts → Parts → CareSet → Type 0
RunAlike a b care = (run twin : Run) → IsRun a run → IsWithinCare a care run → IsRun b twin →
    inputs_of twin ≡ map (renamed a.inputs b.inputs) (inputs_of run) →
    twin.latches ≡ renamed (latch_names a) (latch_names b) run.latches → ShowAlike a b run twin

abbrev pub EqualRunAlike : Type 0
EqualRunAlike = (a b : Parts) (care_a care_b : CareSet) → IsNetlist a → IsNetlist b → IsCareOf a care_a → IsCareOf b care_b → HaveOneSource care_a care_b →
    comparison a care_a b care_b ≡ Equal → RunAlike a b care_a
