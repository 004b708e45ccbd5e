-- What is decided: whether a netlist is accepted on a care set where these of its signals are observed.
use Rattle.std.specs.Prelude.{◌≡◌, Bool, List, length}
use Rattle.netlist.specs.declared.parts.Parts.{Parts}
use Rattle.netlist.specs.Netlists.{IsNetlist}
use Rattle.loops.specs.declared.structure.Blocks.{Blocks}
use Rattle.loops.specs.declared.structure.Cut.{Cut}
use Rattle.loops.specs.declared.structure.SweepCounts.{SweepCounts}
use Rattle.loops.specs.Blocks.{AreBlocksOf}
use Rattle.loops.specs.Cuts.{IsCutOf}
use Rattle.loops.specs.Looped.{Looped}
use Rattle.fixpoint.specs.Orders.{order as order_of}
use Rattle.care_sets.specs.Binding.{IsCareOf}
use Rattle.care_sets.specs.Care.{CareSet}
use Rattle.clause_decision.specs.Scopes.{AreNeverUnknown}
use Rattle.refusals.specs.declared.observe.Observe.{Observe}
use Rattle.diagram_decision.specs.Questions.{Asked as DiagramsAsked}
use Rattle.verdict.specs.declared.ground.Ground.{Ground}
use Rattle.diagram_decision.specs.declared.judgement.Judgement.{Judgement}
use Rattle.verdict.specs.declared.verdict.Verdict.{Verdict}
use Rattle.isolation.specs.Alone.{SettleInOneSweep}
use Rattle.loop_simulation.specs.Sweeping.{AreSweepsOnCare}
use Rattle.diagram_decision.specs.Judgements.{IsJudgement}
use Rattle.verdict.specs.Verdicts.{IsVerdict}

pub record Asked : Type 0 where
  pub net : Parts
  pub blocks : Blocks
  pub cut : Cut
  pub care : CareSet
  pub what : Observe
  -- a mark for each block: those of loops say that they are settled by themselves in one sweep
  pub settled : List Bool

-- a question as diagrams answer it, with these marks
abbrev pub asked_with : DiagramsAsked → List Bool → Asked
asked_with q settled = record { net = q.net; blocks = q.blocks; cut = q.cut; care = q.care; what = q.what; settled = settled }

abbrev pub looped_in : Asked → Looped
looped_in q = record { net = q.net; blocks = q.blocks; cut = q.cut }

-- all parts are the netlist's, and each loop with a mark is settled by itself
pub record IsAsked (q : Asked) : Type 0 where
  pub net : IsNetlist q.net
  pub blocks : AreBlocksOf q.net q.blocks
  pub cut : IsCutOf q.net q.cut
  pub care : IsCareOf q.net q.care
  pub width : length q.settled ≡ length q.blocks.list
  pub settled : SettleInOneSweep q.net q.blocks q.settled

-- what is found of a netlist with its loops, for all questions: the columns as diagrams have them, loops that are settled by
-- themselves, and gates that no Boolean vector leaves unknown
pub record IsGround (l : Looped) (ground : Ground) : Type 0 where
  pub order_is : ground.order.items ≡ order_of l.net
  pub width : length ground.settled.items ≡ length l.blocks.list
  pub settled : SettleInOneSweep l.net l.blocks ground.settled.items
  pub known_width : length ground.known.items ≡ length l.net.gates
  pub known : AreNeverUnknown l.net ground.known.items

-- a question with what was found of its netlist
pub record IsGrounded (q : Asked) (ground : Ground) : Type 0 where
  pub is : IsAsked q
  pub ground_is : IsGround (looped_in q) ground

-- the question as diagrams answer it
abbrev pub on_diagrams : Asked → DiagramsAsked
on_diagrams q = record { net = q.net; blocks = q.blocks; cut = q.cut; care = q.care; what = q.what }

-- what it is answered by
abbrev pub IsJudgementOf : Asked → Judgement → Type 0
IsJudgementOf q judgement = IsJudgement q.net q.care q.what judgement

abbrev pub IsVerdictOf : Asked → Verdict → Type 0
IsVerdictOf q verdict = IsVerdict q.net q.blocks q.cut q.care q.what verdict

-- where it is accepted: the sweeps that its loops need on care
abbrev pub AreCountsOf : Asked → SweepCounts → Type 0
AreCountsOf q counts = AreSweepsOnCare q.net q.blocks q.cut q.care counts
