use Rattle.std.proofs.Common.{◌≡◌, length, arith, get_or, false}
use Rattle.std.proofs.lemmas.List.{get_or_default}
use Rattle.components.proofs.OrderLemmas.{seen_none, seen_more, seen_pair, all_seen}
use Rattle.components.proofs.order.all_differ.Goals as goal

pub loop-number-init : goal.loop-number-init
loop-number-init c = rw (c.in_ok-seen.ensures.items_if_clones_equal (λ y e. e)) (seen_none c.args.numbers.now c.args.count)

pub returns-then-index-clause-pair : goal.returns-then-index-clause-pair
returns-then-index-clause-pair c e =
    grind (arith, seen_pair c.args.numbers.now c.loop-number.seen.items c.args.count c.loop-number.number-index c.loop-number.invariant c.loop-number-test.true, get_or_default c.loop-number.seen.items (get_or c.args.numbers.now c.loop-number.number-index 0) false c.index.result.now)

pub loop-number-preserved : goal.loop-number-preserved
loop-number-preserved c =
    grind (arith, seen_more c.args.numbers.now c.loop-number.seen.items c.args.count c.loop-number.number-index c.loop-number.invariant c.loop-number-test.true, get_or_default c.loop-number.seen.items (get_or c.args.numbers.now c.loop-number.number-index 0) false c.index.result.now)

pub returns-clause-all : goal.returns-clause-all
returns-clause-all c e =
    let end : c.loop-number.number-index ≡ length c.args.numbers.now = omega arith in
    grind (arith, all_seen c.args.numbers.now c.loop-number.seen.items c.args.count)
