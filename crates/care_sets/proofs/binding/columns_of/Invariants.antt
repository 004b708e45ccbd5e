use Rattle.std.proofs.Common.{take}
use Rattle.care_sets.specs.Binding.{AreColumnsOf}
use Rattle.care_sets.proofs.binding.columns_of.Given as goal

-- the inputs so far have named these columns
abbrev pub invariant-loop-number : goal.invariant-loop-number
invariant-loop-number l = AreColumnsOf l.net (take l.number l.model.inputs) l.columns.items
