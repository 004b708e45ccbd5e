use Rattle.std.proofs.Common.{length, arith}
use Rattle.explain_text.proofs.Common.{range_with_len, side_of, appended_none, appended_item, appended_in_item, appended_items}
use Rattle.std.proofs.lemmas.List.FromFn.{length-range_with_len}
use Rattle.cyc_base.proofs.ListLemmas.{at_range}
use Rattle.explain_text.proofs.explanation.put_sides.Goals as goal

pub loop-signal-init : goal.loop-signal-init
loop-signal-init g c = appended_none _ _ _

pub loop-signal-preserved : goal.loop-signal-preserved
loop-signal-preserved g c =
    appended_item (side_of c.args.net.now c.args.sides.now) (range_with_len 0 (length c.args.sides.now)) c.loop-signal.signal c.loop-signal.signal _ _ _ _ _ _ _ _
    (omega (arith, length-range_with_len 0 (length c.args.sides.now))) (at_range (length c.args.sides.now) c.loop-signal.signal (omega arith)) c.loop-signal.invariant c.in_ok-put_side_of.ensures

pub returns-in_err-put_side_of : goal.returns-in_err-put_side_of
returns-in_err-put_side_of g c =
    appended_in_item (side_of c.args.net.now c.args.sides.now) (range_with_len 0 (length c.args.sides.now)) c.loop-signal.signal c.loop-signal.signal _ _ _ _ _ _ _ _ _
    (omega (arith, length-range_with_len 0 (length c.args.sides.now))) (at_range (length c.args.sides.now) c.loop-signal.signal (omega arith)) c.loop-signal.invariant c.in_err-put_side_of.ensures c.from_residual.ensures.0

pub returns : goal.returns
returns g c =
    appended_items (side_of c.args.net.now c.args.sides.now) (range_with_len 0 (length c.args.sides.now)) c.loop-signal.signal _ _
    (omega (arith, length-range_with_len 0 (length c.args.sides.now))) c.loop-signal.invariant
