use Rattle.std.proofs.Common.{◌<◌, ◌≤◌, ap, arith}
use Rattle.delay_core.proofs.Common.{count}
use Rattle.delay_core.proofs.ChangeLemmas.{logged_more, logged_all, openings_left, openings_done}
use Rattle.delay_core.proofs.whole.log_opening.Goals as goal

pub loop-number-preserved : goal.loop-number-preserved
loop-number-preserved c =
    let play = c.args.play.now.state in
    let short : c.loop-number.number < count play.net = omega (arith, c.loop-number-test.true, c.count-number-end.ensures.count, ap count c.requires) in
    logged_more c.args.log.now c.loop-number.log c.add.new.self _ _ _ _ (openings_left play (count play.net) c.loop-number.number short)
    (rw c.opening.ensures at c.in_ok-add.ensures) c.loop-number.invariant

pub returns : goal.returns
returns c =
    let play = c.args.play.now.state in
    let far : count play.net ≤ c.loop-number.number = omega (arith, c.loop-number-test.false, c.count-number-end.ensures.count, ap count c.requires) in
    logged_all c.args.log.now c.loop-number.log _ _ (openings_done play (count play.net) c.loop-number.number far) c.loop-number.invariant
