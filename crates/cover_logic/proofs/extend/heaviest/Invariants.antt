use Rattle.std.proofs.Common.{◌≡◌, slice_get, Some}
use Rattle.cyc_base.specs.declared.trit.Trit.TheVariants.{X}
use Rattle.cover_logic.proofs.extend.heaviest.Given as goal

abbrev pub invariant-loop-pin : goal.invariant-loop-pin
invariant-loop-pin l = slice_get l.pins l.best ≡ Some X
