use Rattle.std.proofs.Common.{◌∙◌, arith}
use Rattle.dual_rail.proofs.LocalLemmas.{remainder-cover, function-cover, NewAreParts-alike, IsRefusedPart-alike}
use Rattle.dual_rail.proofs.expand.expand_cover.Goals as goal

pub returns-clause-function : goal.returns-clause-function
returns-clause-function c =
    function-cover c.args.cover.now c.rows.ensures.proper c.rows.result.now c.plane.result c.rows.ensures.rows c.plane.ensures.plane c.expand_rows.new.store (c.expand_rows.ensures.keeps.vars ∙ c.requires) c.expand_rows.result c.expand_rows.ensures.node

pub returns-clause-parts : goal.returns-clause-parts
returns-clause-parts c = grind (arith, NewAreParts-alike, remainder-cover c.args.cover.now c.rows.ensures.proper c.rows.result.now c.plane.result c.rows.ensures.rows c.plane.ensures.plane)

pub returns-clause-full : goal.returns-clause-full
returns-clause-full c is_full = grind (arith, IsRefusedPart-alike, remainder-cover c.args.cover.now c.rows.ensures.proper c.rows.result.now c.plane.result c.rows.ensures.rows c.plane.ensures.plane)
