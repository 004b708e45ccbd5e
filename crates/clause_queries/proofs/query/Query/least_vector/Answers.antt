use Rattle.std.proofs.Common.{List, Bool, length, subst, arith}
use Rattle.std.proofs.lemmas.Result.{IfOk-weaker}
use Rattle.clause_queries.specs.declared.least.Found.TheVariants.{NoVector}
use Rattle.clause_queries.specs.Queries.{IsReply}
use Rattle.clause_queries.specs.Vectors.{Asks, IsFound, IsFirstOf}
use Rattle.clause_queries.proofs.DescentLemmas.{found-first}
use Rattle.clause_queries.proofs.query.Query.least_vector.Goals as goal

pub returns-in-Model-clause-first : goal.returns-in-Model-clause-first
returns-in-Model-clause-first c =
    let p = c.args.self.now in
    let columns = c.args.columns.now in
    let assumptions = c.args.assumptions.now in
    grind (arith, IfOk-weaker c.descend.result (IsFound c.ask.new.self columns assumptions), found-first p columns assumptions)

pub returns-in-NoModel-clause-first : goal.returns-in-NoModel-clause-first
returns-in-NoModel-clause-first c = grind (arith, found-first c.args.self.now c.args.columns.now c.args.assumptions.now NoVector)
