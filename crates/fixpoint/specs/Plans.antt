-- What a loop is swept by: its gates in an order, and its cut wires.
use Rattle.std.specs.Prelude.{◌≡◌, ◌<◌, ℕ, length, filter, All}
use Rattle.netlist.specs.declared.parts.Parts.{Parts}
use Rattle.loops.specs.Blocks.{block_at}
use Rattle.loops.specs.Cuts.{is_cut}
use Rattle.loops.specs.Looped.{Looped, IsLooped}
use Rattle.loops.specs.Orders.{IsOrderOf}
use Rattle.fixpoint.specs.declared.sweeping.LoopPlan.{LoopPlan}
use Rattle.fixpoint.specs.Solved.{IsLoopAt}

-- gates and cut wires of the netlist
pub record IsPlan (net : Parts) (plan : LoopPlan) : Type 0 where
  pub order : All (λ n. n < length net.gates) plan.order
  pub cuts : All (λ n. n < length net.gates) plan.cuts

-- the loop at place b is swept by it
pub record IsPlanOf (l : Looped) (b : ℕ) (plan : LoopPlan) : Type 0 where
  pub fits : IsPlan l.net plan
  pub are : IsLooped l
  pub loop : IsLoopAt l.blocks b
  pub order : IsOrderOf l.net (is_cut l.cut.wires) (block_at l.blocks b).gates plan.order
  pub cuts : plan.cuts ≡ filter (is_cut l.cut.wires) (block_at l.blocks b).gates
