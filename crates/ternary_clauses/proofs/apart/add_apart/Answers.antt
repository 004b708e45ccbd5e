use Rattle.std.proofs.Common.{arith}
use Rattle.ternary_clauses.proofs.ApartLemmas.{apart-says}
use Rattle.ternary_clauses.proofs.apart.add_apart.Goals as goal

pub returns-clause-says : goal.returns-clause-says
returns-clause-says c =
    grind (arith, apart-says c.args.formula.now c.new_column.new.formula c.add_unless_equal.new.formula c.args.here c.args.there c.in_ok-apart.field-0 c.requires.here c.requires.there c.in_ok-apart.ensures.rails c.add_unless_equal.ensures.variables c.in_ok-add_unless_equal.ensures.literals)
