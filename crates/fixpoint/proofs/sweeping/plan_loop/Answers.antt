use Rattle.std.proofs.Common.{arith}
use Rattle.fixpoint.proofs.Common.{Looped, block_at, is_cut, IsOrderOf}
use Rattle.fixpoint.proofs.CutLemmas.{cuts-within, order-within}
use Rattle.fixpoint.proofs.sweeping.plan_loop.Goals as goal

pub returns : goal.returns
returns c =
    let l : Looped = c.args.looped.now in
    let b = c.args.place in
    let l_is = c.cut.ensures.looped in
    let follows : IsOrderOf l.net (is_cut l.cut.wires) (block_at l.blocks c.args.place).gates c.in_ok-order.order.items = c.in_ok-order.ensures in
    grind (arith, order-within l.net l.blocks l_is.blocks l.cut b c.requires c.in_ok-order.order.items follows c.of.result c.of.ensures, cuts-within l.net l.blocks l_is.blocks l.cut b c.requires c.in_ok-cuts.cuts.items)
