use Rattle.std.proofs.Common.{◌∙◌, subst, sym}
use Rattle.clause_queries.specs.Clauses.{IsWithin}
use Rattle.clause_queries.proofs.DescentLemmas.{only-negations-within}
use Rattle.clause_queries.proofs.query.Query.try_least.Goals as goal

pub prefer-requires : goal.prefer-requires
prefer-requires c =
    subst (IsWithin c.args.self.now.variables) (sym (c.deref.ensures.value ∙ c.in_ok-low.ensures))
    (only-negations-within c.args.self.now.variables c.args.columns.now c.requires.columns)
