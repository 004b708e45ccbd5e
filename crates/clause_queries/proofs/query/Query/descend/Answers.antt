use Rattle.std.proofs.Common.{◌∙◌, [], ap, sym, subst, arith}
use Rattle.clause_queries.specs.Descent.{IsFixed}
use Rattle.clause_queries.specs.Vectors.{vector_of, IsLeastVector}
use Rattle.clause_queries.proofs.DescentLemmas.{fixed-none, fixed-all}
use Rattle.clause_queries.proofs.query.Query.descend.Goals as goal

pub returns-clause-found : goal.returns-clause-found
returns-clause-found c =
    let p = c.args.self.now in
    let columns = c.args.columns.now in
    let assumptions = c.args.assumptions.now in
    let start = subst (λ fixed. IsFixed p assumptions [] fixed c.args.model.items) (sym (c.in_ok-fixed.ensures.items_if_clones_equal (λ x y e. e))) (fixed-none p assumptions c.args.model.items c.requires.model) in
    let done = c.in_ok-fix_columns.ensures.fixed c.if-not-branch.false assumptions start in
    grind (arith, fixed-all p assumptions columns c.fix_columns.new.fixed.items c.fix_columns.new.model.items done)
