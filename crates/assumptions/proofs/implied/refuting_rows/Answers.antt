use Rattle.std.proofs.Common.{◌≤◌, length, arith}
use Rattle.assumptions.proofs.ImpliedLemmas.{all_refuted}
use Rattle.assumptions.proofs.implied.refuting_rows.Goals as goal

pub returns : goal.returns
returns c =
    let over : length c.args.others.now ≤ c.loop-other.other-index = grind (arith, c.loop-other-test.false) in
    all_refuted c.args.others.now c.args.value c.loop-other.other-index c.loop-other.rows.items c.push-2.new.self.items c.in_ok-single-2.field-0 over c.loop-other.invariant
    c.in_ok-single-2.ensures c.in_ok-push-2.ensures.items
