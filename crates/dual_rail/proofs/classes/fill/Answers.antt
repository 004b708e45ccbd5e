use Rattle.std.proofs.Common.{ap, length, ◌∙◌, arith}
use Rattle.dual_rail.proofs.Common.{length_push}
use Rattle.std.proofs.lemmas.List.{get_or_default}
use Rattle.dual_rail.proofs.ClassLemmas.{AreNumbered-more}
use Rattle.dual_rail.proofs.classes.fill.Goals as goal

pub loop-row-preserved : goal.loop-row-preserved
loop-row-preserved c = record {
  named = rw c.in_ok-push.ensures.items (AreNumbered-more c.first-number.new.firsts c.loop-row.invariant.named c.loop-row.invariant.here (get_or_default c.args.rests.now c.loop-row.row 0 c.loop-row.row (omega (arith, c.loop-row-test.true, c.requires.rests.each))) c.literal.ensures c.first-number.ensures.found c.first-number.ensures.same c.first-number.ensures.others);
  here = omega (arith, ap length c.in_ok-push.ensures.items, length_push c.loop-row.numbers.items c.first-number.result, c.loop-row.invariant.here);
  long = c.first-number.ensures.length ∙ c.loop-row.invariant.long;
}
