use Rattle.ternary_clauses.proofs.RailLemmas.{wire-new}
use Rattle.ternary_clauses.proofs.rails.new_wire.Goals as goal

pub returns-clause-rails : goal.returns-clause-rails
returns-clause-rails c = wire-new c.args.formula.now c.add_wire.new.formula c.requires c.add_wire.ensures.variables c.in_ok-add_wire.ensures.literals
