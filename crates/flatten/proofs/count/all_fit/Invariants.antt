use Rattle.std.proofs.Common.{take, All}
use Rattle.flatten.proofs.Common.{BlifModel}
use Rattle.flatten.specs.Counting.{Fits}
use Rattle.flatten.proofs.count.all_fit.Given as goal

abbrev pub invariant-loop-model : goal.invariant-loop-model
invariant-loop-model l = All (λ (model : BlifModel). All (Fits l.hierarchy.models) model.body) (take l.model-index l.model-items)

abbrev pub invariant-loop-item : goal.invariant-loop-item
invariant-loop-item l = All (Fits l.hierarchy.models) (take l.item-index l.item-items)
