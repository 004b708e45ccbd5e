use Rattle.std.proofs.Common.{take, get_or, subst, sym}
use Rattle.clause_pairs.proofs.Common.{take_all, take_more}
use Rattle.clause_pairs.specs.Pairs.{HoldsEach}
use Rattle.clause_pairs.proofs.UnitLemmas.{holds-none, holds-one, holds-step}
use Rattle.clause_pairs.proofs.apart.add_units.Goals as goal

pub loop-literal-init : goal.loop-literal-init
loop-literal-init c = holds-none c.args.formula.now c.requires.formula

pub loop-literal-preserved : goal.loop-literal-preserved
loop-literal-preserved c =
    let literals = c.args.literals.now in
    let place = c.loop-literal.literal-index in
    let literal = get_or literals place 0 in
    subst (HoldsEach c.args.formula.now c.add_clause.new.self) (sym (take_more literals place 0 c.loop-literal-test.true))
    (holds-step c.args.formula.now c.loop-literal.formula c.add_clause.new.self (take place literals) literal c.loop-literal.invariant
    (holds-one c.loop-literal.formula c.add_clause.new.self literal c.in_ok-add_clause.ensures.formula c.add_clause.ensures.variables c.in_ok-add_clause.ensures.says))

pub returns : goal.returns
returns c = rw (take_all c.loop-literal.literal-index c.args.literals.now c.loop-literal-test.false) at c.loop-literal.invariant
