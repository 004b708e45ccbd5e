use Rattle.ternary_clauses.proofs.Common.{on_ok_weaker}
use Rattle.ternary_clauses.proofs.NodeLemmas.{equal-tells, same-tells}
use Rattle.ternary_clauses.proofs.GateLemmas.{lift-binds}
use Rattle.ternary_clauses.proofs.lifting.bind_rails.Goals as goal

pub returns-then-out-eq0 : goal.returns-then-out-eq0
returns-then-out-eq0 c pins g is =
    on_ok_weaker c.add_same.result
    (lift-binds c.args.formula.now c.add_same.new.formula pins g c.args.out c.requires.formula c.requires.out c.add_same.ensures.variables c.args.rails same-tells is (λ e. (c.if-rails-eq0.true, c.if-out-eq0.true)))
    c.add_same.ensures.literals

pub returns-else-rails-eq0 : goal.returns-else-rails-eq0
returns-else-rails-eq0 c pins g is =
    on_ok_weaker c.add_equal.result
    (lift-binds c.args.formula.now c.add_equal.new.formula pins g c.args.out c.requires.formula c.requires.out c.add_equal.ensures.variables c.args.rails equal-tells is (λ e. absurd (cc)))
    c.add_equal.ensures.literals
