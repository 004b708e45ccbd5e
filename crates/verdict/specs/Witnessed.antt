-- The judgement with any witness of an observed wire that is undetermined.
use Rattle.std.specs.Prelude.{◌≡◌, Bool, List, Contains, Some}
use Rattle.cyc_base.specs.declared.sig.Sig.{Sig}
use Rattle.cyc_base.specs.declared.trit.Trit.TheVariants.{X}
use Rattle.cyc_base.specs.Values.{bits}
use Rattle.netlist.specs.declared.parts.Parts.{Parts}
use Rattle.netlist.specs.Fixpoint.{fix, wire}
use Rattle.care_sets.specs.Care.{CareSet, IsCareVector}
use Rattle.refusals.specs.Acceptance.{Accepts, observed}
use Rattle.refusals.specs.Refusals.{refusal, IsAt}
use Rattle.refusals.specs.declared.observe.Observe.{Observe}
use Rattle.refusals.specs.declared.refusal.Refusal.{Refusal}
use Rattle.refusals.specs.declared.refusal.Refusal.TheVariants.{Initial, EmptyCare, Undetermined, Leaves}
use Rattle.diagram_decision.specs.declared.judgement.Judgement.{Judgement}
use Rattle.diagram_decision.specs.declared.judgement.Judgement.TheVariants as judgements
use Rattle.verdict.specs.Questions.{Asked}
use Rattle.diagram_decision.specs.Judgements.{AreLoose}

-- A netlist that is refused for an undetermined wire, the first at its least vector: here another observed wire, or the same
-- one, at another care vector, or the same one.
pub record IsUndeterminedAt (net : Parts) (care : CareSet) (what : Observe) (v : List Bool) (s : Sig) : Type 0 where
  pub at : IsAt net v s
  pub counts : IsCareVector net care v
  pub unknown : wire (fix net (bits v)) s ≡ X
  pub among : Contains (observed net what) s
  pub least : List Bool
  pub first : Sig
  pub refused : refusal net care what ≡ Some (Undetermined least first)

-- a refusal as the definition says, but where a wire is undetermined any such wire, at any care vector
abbrev pub IsSomeRefusal : Parts → CareSet → Observe → Refusal → Type 0
IsSomeRefusal net care what (Initial q) = refusal net care what ≡ Some (Initial q)
IsSomeRefusal net care what EmptyCare = refusal net care what ≡ Some EmptyCare
IsSomeRefusal net care what (Undetermined v s) = IsUndeterminedAt net care what v s
IsSomeRefusal net care what (Leaves v q) = refusal net care what ≡ Some (Leaves v q)

-- accepted, with the number of loose gates, or refused so
abbrev pub IsSomeJudgement : Parts → CareSet → Observe → Judgement → Type 0
IsSomeJudgement net care what (judgements.Accepted loose) = Accepts net care what × AreLoose net care loose
IsSomeJudgement net care what (judgements.Refused r) = IsSomeRefusal net care what r

abbrev pub IsSomeJudgementOf : Asked → Judgement → Type 0
IsSomeJudgementOf q judgement = IsSomeJudgement q.net q.care q.what judgement
