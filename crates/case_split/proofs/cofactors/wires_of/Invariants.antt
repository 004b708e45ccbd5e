use Rattle.std.proofs.Common.{◌≡◌, take}
use Rattle.case_split.specs.Cofactors.{wires_of}
use Rattle.case_split.proofs.cofactors.wires_of.Given as goal

abbrev pub invariant-loop-pin : goal.invariant-loop-pin
invariant-loop-pin l = l.wires.items ≡ wires_of (take l.pin-index l.left)
