use Rattle.std.proofs.Common.{◌≡◌, ◌≤◌, length, None}
use Rattle.case_split.specs.declared.operands.Operand.{Operand}
use Rattle.case_split.specs.Cofactors.{left_at}
use Rattle.case_split.proofs.ListLemmas.{AreMade}
use Rattle.case_split.proofs.cofactors.left_pins.Given as goal

abbrev pub invariant-loop-pin : goal.invariant-loop-pin
invariant-loop-pin l = (length l.left.items ≡ l.pin) × (l.pin ≤ length l.operands) × ((d : Operand) → AreMade (left_at l.live) (λ i. d) (λ i. None) l.operands l.pin l.left.items)
