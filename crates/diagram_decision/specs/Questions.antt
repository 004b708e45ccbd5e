-- What is decided by diagrams: whether a netlist is accepted on a care set where these of its signals are observed.
use Rattle.std.specs.Prelude.{◌≡◌, List, ℕ}
use Rattle.netlist.specs.declared.parts.Parts.{Parts}
use Rattle.netlist.specs.Netlists.{IsNetlist}
use Rattle.loops.specs.declared.structure.Blocks.{Blocks}
use Rattle.loops.specs.declared.structure.Cut.{Cut}
use Rattle.loops.specs.declared.structure.SweepCounts.{SweepCounts}
use Rattle.loops.specs.Blocks.{AreBlocksOf}
use Rattle.loops.specs.Cuts.{IsCutOf}
use Rattle.loops.specs.Looped.{Looped}
use Rattle.fixpoint.specs.Orders.{order as order_of}
use Rattle.care_sets.specs.Binding.{IsCareOf}
use Rattle.care_sets.specs.Care.{CareSet}
use Rattle.refusals.specs.declared.observe.Observe.{Observe}
use Rattle.diagram_decision.specs.declared.judgement.Judgement.{Judgement}
use Rattle.loop_simulation.specs.Sweeping.{AreSweepsOnCare}
use Rattle.diagram_decision.specs.Judgements.{IsJudgement}

pub record Asked : Type 0 where
  pub net : Parts
  pub blocks : Blocks
  pub cut : Cut
  pub care : CareSet
  pub what : Observe

abbrev pub asked : Looped → CareSet → Observe → Asked
asked l care what = record { net = l.net; blocks = l.blocks; cut = l.cut; care = care; what = what }

abbrev pub looped_in : Asked → Looped
looped_in q = record { net = q.net; blocks = q.blocks; cut = q.cut }

-- all parts are the netlist's
pub record IsAsked (q : Asked) : Type 0 where
  pub net : IsNetlist q.net
  pub blocks : AreBlocksOf q.net q.blocks
  pub cut : IsCutOf q.net q.cut
  pub care : IsCareOf q.net q.care

-- a question with the column of each variable of diagrams
pub record IsOrdered (q : Asked) (columns_by : List ℕ) : Type 0 where
  pub is : IsAsked q
  pub order_is : columns_by ≡ order_of q.net

-- what it is answered by
abbrev pub IsJudgementOf : Asked → Judgement → Type 0
IsJudgementOf q judgement = IsJudgement q.net q.care q.what judgement

-- where it is accepted: the sweeps that its loops need on care
abbrev pub AreCountsOf : Asked → SweepCounts → Type 0
AreCountsOf q counts = AreSweepsOnCare q.net q.blocks q.cut q.care counts
