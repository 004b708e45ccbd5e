use Rattle.std.proofs.Common.{◌≡◌, ◌+◌, length}
use Rattle.dual_rail.specs.Classes.{AreClassesBack}
use Rattle.dual_rail.proofs.classes.from_last.Given as goal

abbrev pub invariant-loop-back : goal.invariant-loop-back
invariant-loop-back l = record {
  long : length l.classes.items ≡ l.back + 1;
  classes : AreClassesBack l.rows l.pins l.classes.items;
}
