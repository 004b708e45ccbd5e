use Rattle.std.proofs.Common.{◌≡◌, length}
use Rattle.dual_rail.specs.Classes.{AreNumbered}
use Rattle.dual_rail.proofs.classes.fill.Given as goal

abbrev pub invariant-loop-row : goal.invariant-loop-row
invariant-loop-row l = record {
  named : AreNumbered l.rows l.pin l.rests l.firsts l.numbers.items;
  here : length l.numbers.items ≡ l.row;
  long : length l.firsts ≡ length l.rows;
}
