use Rattle.std.proofs.Common.{List, subst}
use Rattle.clause_pairs.proofs.Common.{Rails}
use Rattle.clause_pairs.specs.Missing.{SaysMissing}
use Rattle.clause_pairs.proofs.CubeLemmas.{covered}
use Rattle.clause_pairs.proofs.cubes.missing_formula.Goals as goal

pub returns : goal.returns
returns c =
    covered c.args.net.now c.args.care.now c.in_ok-said.said.formula
    (record { formula = c.add_missing_each.new.formula; columns = c.in_ok-said.said.columns; inside = c.in_ok-said.said.inside; allowed = c.in_ok-said.said.allowed })
    c.args.cubes.now c.in_ok-said.ensures
    (subst (λ (rails : List Rails). SaysMissing c.in_ok-said.said.formula c.add_missing_each.new.formula rails c.args.cubes.now) c.deref.ensures.value c.in_ok-add_missing_each.ensures)
    c.requires.columns
