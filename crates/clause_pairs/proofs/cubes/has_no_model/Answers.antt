use Rattle.clause_pairs.proofs.Common.{problem}
use Rattle.clause_pairs.proofs.CubeLemmas.{not-possible, query-is}
use Rattle.clause_pairs.proofs.cubes.has_no_model.Goals as goal

pub returns-in-Some-2 : goal.returns-in-Some-2
returns-in-Some-2 c none =
    not-possible (problem c.args.said.now.formula) c.in-Some.query _ c.in_ok-possible.field-0 c.in-Some-2.possible
    (query-is c.in_ok-query.field-0 c.in-Some.query (problem c.args.said.now.formula) c.in-Some.is c.in_ok-query.ensures) c.in-Some-2.is c.in_ok-possible.ensures.possible none
