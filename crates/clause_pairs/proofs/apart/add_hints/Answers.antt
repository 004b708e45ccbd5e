use Rattle.std.proofs.Common.{get_or}
use Rattle.clause_pairs.proofs.ApartLemmas.{no_hint, literals-none, literals-step, rails-still}
use Rattle.clause_pairs.proofs.apart.add_hints.Goals as goal

pub loop-hint-init : goal.loop-hint-init
loop-hint-init c = rw c.new-literals.ensures.items (literals-none c.args.formula.now c.requires.formula)

pub add_hint-requires-clause-rails : goal.add_hint-requires-clause-rails
add_hint-requires-clause-rails c =
    let place = c.loop-hint.hint-index in
    rails-still c.args.formula.now c.loop-hint.formula c.args.rails.now c.loop-hint.invariant.grows (get_or c.args.hints.now place no_hint).pair (c.requires.rails place no_hint c.loop-hint-test.true)

pub loop-hint-preserved : goal.loop-hint-preserved
loop-hint-preserved c = rw c.in_ok-push.ensures.items (literals-step c.args.formula.now c.loop-hint.formula c.add_hint.new.formula c.loop-hint.literals.items c.in_ok-add_hint.field-0 c.loop-hint.invariant c.in_ok-add_hint.ensures)
