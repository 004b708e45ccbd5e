use Rattle.std.proofs.Common.{◌<◌, ◌*◌, ◌∙◌, List, length, subst, sym}
use Rattle.std.specs.List.{All}
use Rattle.sat.specs.declared.lit.Lit.{Lit}
use Rattle.clause_queries.proofs.ClauseLemmas.{clause-within}
use Rattle.clause_queries.proofs.query.add_clause.Goals as goal

pub add_clause-requires-clause-within : goal.add_clause-requires-clause-within
add_clause-requires-clause-within c =
    subst (λ k. All (λ l. l.code < 2 * k) c.deref.result.now) (sym c.requires.variables)
    (subst (λ (lits : List Lit). All (λ l. l.code < 2 * length c.args.names.now.names.items) lits) (sym (c.deref.ensures.value ∙ c.in_ok-lits.ensures))
    (clause-within c.args.names.now c.requires.names c.args.clause.now c.requires.numbered))
