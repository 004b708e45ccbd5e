use Rattle.std.proofs.Common.{List, ◌∙◌, ap, map, subst, sym}
use Rattle.clause_pairs.proofs.Common.{IsWithin}
use Rattle.clause_pairs.specs.declared.pairs.Fixed.{Fixed}
use Rattle.clause_pairs.specs.Missing.{missing_literal}
use Rattle.clause_pairs.proofs.CubeLemmas.{missing-within}
use Rattle.clause_pairs.proofs.cubes.add_missing.Goals as goal

pub add_clause-requires-clause-literals : goal.add_clause-requires-clause-literals
add_clause-requires-clause-literals c =
    let k = c.args.formula.now.variables in
    let rails = c.args.rails.now in
    subst (IsWithin k) (sym (c.deref.ensures.value ∙ c.in_ok-clause.ensures ∙ ap (λ (cube : List Fixed). map (missing_literal rails) cube) c.items.ensures))
    (missing-within k rails c.args.cube.now.fixed c.requires.cube c.requires.rails)
