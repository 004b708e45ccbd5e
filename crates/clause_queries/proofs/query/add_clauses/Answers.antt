use Rattle.std.proofs.Common.{◌∙◌, sym, subst, true≢false, arith}
use Rattle.clause_queries.specs.Clauses.{IsWithin}
use Rattle.clause_queries.proofs.ClauseLemmas.{AreLoading, loading-more, loading-full, loading-foreign, clause-numbered}
use Rattle.clause_queries.proofs.query.add_clauses.Goals as goal
use Rattle.clause_queries.proofs.query.add_clauses.Goals.{then-added-via-then-added, then-added-via-else-added+then-not-is_within}

pub returns-then-added-clause-many : goal.returns-then-added-clause-many
returns-then-added-clause-many c = λ _.
    let size = c.in-Some.size.now in
    let after = c.in-Some.after.now in
    let before = subst (λ rest. AreLoading c.args.variables c.args.names.now c.args.literals.now c.loop-size.added rest c.loop-size.solver.formula) c.in-Some.ensures.cases.0 c.loop-size.invariant.0 in
    elim c.then-added.branch [
      | then-added-via-then-added w ↦ loading-full c.args.variables c.args.names.now c.args.literals.now c.loop-size.added size after c.loop-size.solver.formula before w.if-added.true
      | then-added-via-else-added+then-not-is_within w ↦
          loading-foreign c.args.variables c.args.names.now c.args.literals.now c.loop-size.added size after c.loop-size.solver.formula before
          (λ within. true≢false (sym (w.is_within.ensures.1 (subst (IsWithin c.args.variables) (sym c.split_clause.ensures.clause) within)) ∙ w.if-not-is_within.true))
    ]

pub add_clause-requires-clause-numbered : goal.add_clause-requires-clause-numbered
add_clause-requires-clause-numbered c =
    let size = c.in-Some.size.now in
    let after = c.in-Some.after.now in
    grind (arith, clause-numbered c.args.variables c.args.names.now c.args.literals.now c.loop-size.added size after c.loop-size.solver.formula)

pub loop-size-preserved : goal.loop-size-preserved
loop-size-preserved c =
    let variables = c.args.variables in
    let names = c.args.names.now in
    let literals = c.args.literals.now in
    let added = c.loop-size.added in
    let formula = c.loop-size.solver.formula in
    let size = c.in-Some.size.now in
    let after = c.in-Some.after.now in
    grind (arith, loading-more variables names literals added size after formula, clause-numbered variables names literals added size after formula)
