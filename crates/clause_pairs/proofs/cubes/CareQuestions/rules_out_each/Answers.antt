use Rattle.std.proofs.Common.{List, ◌∙◌, ap, map}
use Rattle.clause_pairs.proofs.Common.{IfOk-weaker, Rails}
use Rattle.clause_pairs.specs.Pairs.{fixed_literal}
use Rattle.clause_pairs.proofs.CubeLemmas.{asked-inside, none-marked, ruled-out-each-inside, values-inside}
use Rattle.clause_pairs.proofs.cubes.CareQuestions.rules_out_each.Goals as goal

pub never_each-requires-clause-literals : goal.never_each-requires-clause-literals
never_each-requires-clause-literals c =
    values-inside c.args.self.now (record { rails = c.self.inside.rails.items; inside = c.self.inside.inside; allowed = c.self.inside.allowed; problem = c.self.inside.query }) c.self.view_is
    c.args.values.now c.deref-2.result.now c.self.invariant (c.has_columns-else-not-has_columns.ensures.0 c.if-not-has_columns-2.false)
    (c.deref-2.ensures.value ∙ c.in_ok-literals.ensures ∙ ap (λ (rails : List Rails). map (fixed_literal rails) c.args.values.now) c.deref.ensures.value)

pub never_each-requires-clause-assumptions : goal.never_each-requires-clause-assumptions
never_each-requires-clause-assumptions c =
    asked-inside c.args.self.now (record { rails = c.self.inside.rails.items; inside = c.self.inside.inside; allowed = c.self.inside.allowed; problem = c.self.inside.query }) c.self.view_is
    c.args.cube.now c.deref-3.result.now c.self.invariant (c.has_columns.ensures.0 c.if-not-has_columns.false) (c.deref-3.ensures.value ∙ c.in_ok-assumed.ensures)

pub returns-then-not-has_columns-clause-out : goal.returns-then-not-has_columns-clause-out
returns-then-not-has_columns-clause-out c =
    IfOk-weaker c.no_marks.result _ _ (λ out made net care asks. none-marked net care c.args.cube.now c.args.values.now out.items made) c.no_marks.ensures

pub returns-clause-out : goal.returns-clause-out
returns-clause-out c =
    IfOk-weaker c.never_each.result _ _ (λ out never net care asks.
    ruled-out-each-inside c.args.self.now (record { rails = c.self.inside.rails.items; inside = c.self.inside.inside; allowed = c.self.inside.allowed; problem = c.self.inside.query }) c.self.view_is
    net care c.args.cube.now c.args.values.now c.deref-2.result.now c.deref-3.result.now out.items asks
    (c.has_columns.ensures.0 c.if-not-has_columns.false) (c.has_columns-else-not-has_columns.ensures.0 c.if-not-has_columns-2.false)
    (c.deref-2.ensures.value ∙ c.in_ok-literals.ensures ∙ ap (λ (rails : List Rails). map (fixed_literal rails) c.args.values.now) c.deref.ensures.value)
    (c.deref-3.ensures.value ∙ c.in_ok-assumed.ensures) never)
    c.never_each.ensures.each
