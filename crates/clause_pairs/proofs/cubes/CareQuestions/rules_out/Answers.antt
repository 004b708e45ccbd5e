use Rattle.std.proofs.Common.{◌∙◌, refl}
use Rattle.clause_pairs.proofs.CubeLemmas.{asked-inside, not-possible, ruled-out-inside}
use Rattle.clause_pairs.proofs.cubes.CareQuestions.rules_out.Goals as goal

pub literals_within-requires : goal.literals_within-requires
literals_within-requires c = c.has_columns.ensures.0 c.if-not-has_columns.false

pub is_possible-requires : goal.is_possible-requires
is_possible-requires c =
    asked-inside c.args.self.now (record { rails = c.self.inside.rails.items; inside = c.self.inside.inside; allowed = c.self.inside.allowed; problem = c.self.inside.query }) c.self.view_is
    c.args.cube.now c.deref.result.now c.self.invariant (c.has_columns.ensures.0 c.if-not-has_columns.false) (c.deref.ensures.value ∙ c.in_ok-assumed.ensures)

pub returns-in-Some-clause-out : goal.returns-in-Some-clause-out
returns-in-Some-clause-out c none net care asks =
    ruled-out-inside c.args.self.now (record { rails = c.self.inside.rails.items; inside = c.self.inside.inside; allowed = c.self.inside.allowed; problem = c.self.inside.query }) c.self.view_is
    net care c.args.cube.now c.deref.result.now asks (c.has_columns.ensures.0 c.if-not-has_columns.false) (c.deref.ensures.value ∙ c.in_ok-assumed.ensures)
    (not-possible c.self.inside.query c.self.inside.query c.deref.result.now c.in_ok-possible.field-0 c.in-Some.possible refl c.in-Some.is c.in_ok-possible.ensures.possible none)
