use Rattle.std.proofs.Common.{sym, ◌∙◌}
use Rattle.ternary_clauses.proofs.Common.{on_ok_weaker}
use Rattle.ternary_clauses.proofs.NodeLemmas.{pick-tells, rail-tells}
use Rattle.ternary_clauses.proofs.GateLemmas.{fork-binds}
use Rattle.ternary_clauses.proofs.lifting.bind_pick.Goals as goal

pub returns-then-out-eq0 : goal.returns-then-out-eq0
returns-then-out-eq0 c pins g is =
    on_ok_weaker c.add_rail.result
    (fork-binds c.args.formula.now c.add_rail.new.formula pins g c.args.out c.requires.formula c.requires.out c.add_rail.ensures.variables c.args.fork.now rail-tells is (λ e. (sym c.are_known.ensures ∙ c.if-are_known.true, c.if-out-eq0.true)))
    c.add_rail.ensures.literals

pub returns-else-are_known : goal.returns-else-are_known
returns-else-are_known c pins g is =
    on_ok_weaker c.add_pick.result
    (fork-binds c.args.formula.now c.add_pick.new.formula pins g c.args.out c.requires.formula c.requires.out c.add_pick.ensures.variables c.args.fork.now pick-tells is (λ e. absurd (cc)))
    c.add_pick.ensures.literals
