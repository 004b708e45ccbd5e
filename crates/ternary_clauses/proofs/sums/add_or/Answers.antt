use Rattle.std.proofs.Common.{◌&&◌, ◌∷◌, [], ap, ◌∙◌}
use Rattle.ternary_clauses.proofs.Common.{list_any, says, holds}
use Rattle.ternary_clauses.proofs.SumLemmas.{or-says}
use Rattle.ternary_clauses.proofs.sums.add_or.Goals as goal

pub returns-clause-says : goal.returns-clause-says
returns-clause-says c =
    let sum = c.in_ok-sum.field-0.one in
    let mid = c.new_column.new.formula in
    let one = c.add_clause.new.self in
    let two = c.add_clause-2.new.self in
    or-says c.args.formula.now mid one two c.add_clause-3.new.self c.args.a c.args.b c.in_ok-sum.field-0 c.requires.a c.requires.b c.in_ok-sum.ensures.rails
    (c.add_clause-3.ensures.variables ∙ c.add_clause-2.ensures.variables ∙ c.add_clause.ensures.variables) c.in_ok-add_clause-3.ensures.formula
    (λ m. c.in_ok-add_clause.ensures.says m ∙ ap (λ k. holds m mid.literals.items && list_any (says m) (k ∷ sum ∷ [])) c.negation.ensures)
    (λ m. c.in_ok-add_clause-2.ensures.says m ∙ ap (λ k. holds m one.literals.items && list_any (says m) (k ∷ sum ∷ [])) c.negation-2.ensures)
    (λ m. c.in_ok-add_clause-3.ensures.says m ∙ ap (λ k. holds m two.literals.items && list_any (says m) (k ∷ c.args.a ∷ c.args.b ∷ [])) c.negation-3.ensures)
