use Rattle.std.proofs.Common.{take, get_or, arith}
use Rattle.clause_pairs.proofs.Common.{take_all, take_more}
use Rattle.clause_pairs.proofs.ApartLemmas.{no_pair, pairs-none, pairs-step, rails-still}
use Rattle.clause_pairs.proofs.apart.add_pairs.Goals as goal

pub loop-pair-init : goal.loop-pair-init
loop-pair-init c = rw c.new-literals.ensures.items (pairs-none c.args.formula.now c.args.rails.now c.requires.formula)

pub add_pair-requires-clause-rails : goal.add_pair-requires-clause-rails
add_pair-requires-clause-rails c =
    let place = c.loop-pair.pair-index in
    rails-still c.args.formula.now c.loop-pair.formula c.args.rails.now c.loop-pair.invariant.adds.grows (get_or c.args.pairs.now place no_pair) (c.requires.rails place no_pair c.loop-pair-test.true)

pub loop-pair-preserved : goal.loop-pair-preserved
loop-pair-preserved c =
    let pairs = c.args.pairs.now in
    let place = c.loop-pair.pair-index in
    grind (arith, take_more pairs place no_pair c.loop-pair-test.true, pairs-step c.args.formula.now c.loop-pair.formula c.add_pair.new.formula c.args.rails.now (take place pairs) c.loop-pair.literals.items (get_or pairs place no_pair) c.in_ok-add_pair.field-0 c.loop-pair.invariant c.in_ok-add_pair.ensures)

pub returns : goal.returns
returns c = rw (take_all c.loop-pair.pair-index c.args.pairs.now c.loop-pair-test.false) at c.loop-pair.invariant
