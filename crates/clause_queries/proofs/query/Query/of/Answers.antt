use Rattle.std.proofs.Common.{subst, arith}
use Rattle.clause_queries.specs.Loaded.{AreLoaded}
use Rattle.clause_queries.proofs.ClauseLemmas.{loaded-problem, loaded-within}
use Rattle.clause_queries.proofs.NameLemmas.{few_names}
use Rattle.clause_queries.proofs.query.Query.of.Goals as goal
use Rattle.clause_queries.proofs.query.Query.of.Goals.{In_ok-add_clauses}

pub new-requires : goal.new-requires
new-requires c = grind (arith, few_names c.in_ok-names.names c.in_ok-names.ensures.names)

loaded : (c : In_ok-add_clauses) → AreLoaded c.args.formula.now.variables c.in_ok-names.names c.args.formula.now.literals.items c.add_clauses.new.solver.formula
loaded c = subst (λ ls. AreLoaded c.args.formula.now.variables c.in_ok-names.names ls c.add_clauses.new.solver.formula) c.deref-2.ensures.value c.in_ok-add_clauses.ensures.formula

pub invariant_of-result : goal.invariant_of-result
invariant_of-result c = record {
  names_are = c.in_ok-names.ensures.names;
  width = c.in_ok-names.ensures.width;
  within = loaded-within c.args.formula.now.variables c.in_ok-names.names c.args.formula.now.literals.items c.add_clauses.new.solver.formula c.in_ok-names.ensures.names (loaded c);
}

pub returns-clause-query : goal.returns-clause-query
returns-clause-query c = loaded-problem c.args.formula.now c.in_ok-names.names c.add_clauses.new.solver.formula (loaded c)
