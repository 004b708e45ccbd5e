-- The judgement of a netlist on a care set, and what the decision by diagrams finds on the way.
use Rattle.std.specs.Prelude.{◌≡◌, ℕ, length, None, Some}
use Rattle.std.specs.declared.option.Option.{Option}
use Rattle.std.specs.Option.{option_or}
use Rattle.netlist.specs.Netlists.{columns}
use Rattle.bdd_store.specs.declared.node.Node.{Node}
use Rattle.bdd_store.specs.Arena.{Arena}
use Rattle.netlist.specs.declared.parts.Parts.{Parts}
use Rattle.loops.specs.declared.structure.Blocks.{Blocks}
use Rattle.loops.specs.declared.structure.Cut.{Cut}
use Rattle.fixpoint.specs.Solved.{Vectors, IsSolution}
use Rattle.care_sets.specs.Care.{CareSet, is_care_vector}
use Rattle.refusals.specs.Acceptance.{Accepts}
use Rattle.refusals.specs.Refusals.{initial_refusal, empty_refusal, undetermined_refusal, leaves_refusal, refusal, loose_gates}
use Rattle.refusals.specs.declared.observe.Observe.{Observe}
use Rattle.refusals.specs.declared.refusal.Refusal.{Refusal}
use Rattle.diagram_decision.specs.declared.gate_verdict.GateVerdict.{GateVerdict}
use Rattle.diagram_decision.specs.declared.gate_verdict.GateVerdict.TheVariants as gate_verdicts
use Rattle.diagram_decision.specs.declared.beginning.Start.{Start}
use Rattle.diagram_decision.specs.declared.beginning.Start.TheVariants as starts
use Rattle.diagram_decision.specs.declared.judgement.Judgement.{Judgement}
use Rattle.diagram_decision.specs.declared.judgement.Judgement.TheVariants as judgements
use Rattle.diagram_decision.specs.Sets.{AreFixed, Tells}
use Rattle.diagram_decision.specs.Solving.{AreColumnVectors}
use Rattle.diagram_decision.specs.declared.solving.Fixpoint.{Fixpoint}

-- so many gates are unknown at some care vector
abbrev pub AreLoose : Parts → CareSet → ℕ → Type 0
AreLoose net care loose = loose ≡ length (loose_gates net care)

-- accepted, with the number of loose gates, or refused as the definition says
abbrev pub IsJudgement : Parts → CareSet → Observe → Judgement → Type 0
IsJudgement net care what (judgements.Accepted loose) = Accepts net care what × AreLoose net care loose
IsJudgement net care what (judgements.Refused r) = refusal net care what ≡ Some r

-- the care vectors of a netlist whose initial states are in the invariant, and that has some
pub record IsCareStart (net : Parts) (care : CareSet) (a : Arena) (set : Node) : Type 0 where
  pub told : Tells net a set (is_care_vector net care)
  pub initial : initial_refusal net care ≡ None
  pub some : empty_refusal net care ≡ None

-- a netlist that is solved at all vectors of its columns, beside a set of them
pub record IsSolvedWhole (net : Parts) (blocks : Blocks) (cut : Cut) (a : Arena) (found : Fixpoint) : Type 0 where
  pub points : Vectors
  pub points_are : AreColumnVectors net points
  pub vars : a.vars ≡ columns net
  pub solution : IsSolution net blocks cut a points found.solved
  pub fixed : AreFixed net a found.rails

-- how far the decision comes without the gates
abbrev pub IsStart : Parts → CareSet → Arena → Start → Type 0
IsStart net care a (starts.Care set) = IsCareStart net care a set
IsStart net care a (starts.Refused r) = (what : Observe) → refusal net care what ≡ Some r

-- what refuses a netlist for its gates: an observed one that is undetermined, or else a state that leaves the invariant
abbrev pub refusal_on_care : Parts → CareSet → Observe → Option Refusal
refusal_on_care net care what = option_or (undetermined_refusal net care what) (leaves_refusal net care)

-- the verdict of the gates on care, where this is what may refuse the netlist for them
abbrev pub IsGateVerdict : Option Refusal → Parts → CareSet → GateVerdict → Type 0
IsGateVerdict may net care (gate_verdicts.Determined loose) = (may ≡ None) × AreLoose net care loose
IsGateVerdict may net care (gate_verdicts.Refused r) = may ≡ Some r
