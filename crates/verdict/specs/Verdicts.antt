-- The verdict of a netlist on a care set.
use Rattle.std.specs.Prelude.{◌≡◌, ℕ, Some}
use Rattle.netlist.specs.declared.parts.Parts.{Parts}
use Rattle.loops.specs.declared.structure.Blocks.{Blocks}
use Rattle.loops.specs.declared.structure.Cut.{Cut}
use Rattle.loops.specs.declared.structure.SweepCounts.{SweepCounts}
use Rattle.care_sets.specs.Care.{CareSet}
use Rattle.refusals.specs.Acceptance.{Accepts}
use Rattle.refusals.specs.Refusals.{refusal}
use Rattle.refusals.specs.declared.observe.Observe.{Observe}
use Rattle.loop_simulation.specs.Sweeping.{AreSweepsOnCare}
use Rattle.diagram_decision.specs.Judgements.{AreLoose}
use Rattle.verdict.specs.declared.verdict.Verdict.{Verdict}
use Rattle.verdict.specs.declared.verdict.Verdict.TheVariants.{Accepted, Refused}

-- a netlist that is accepted, with the sweeps of its loops and the number of its loose gates
pub record IsAcceptance (net : Parts) (blocks : Blocks) (cut : Cut) (care : CareSet) (what : Observe) (counts : SweepCounts) (loose : ℕ) : Type 0 where
  pub accepts : Accepts net care what
  pub sweeps : AreSweepsOnCare net blocks cut care counts
  pub loose_is : AreLoose net care loose

-- accepted, or refused as the definition says
abbrev pub IsVerdict : Parts → Blocks → Cut → CareSet → Observe → Verdict → Type 0
IsVerdict net blocks cut care what (Accepted counts loose) = IsAcceptance net blocks cut care what counts loose
IsVerdict net blocks cut care what (Refused r) = refusal net care what ≡ Some r
