use Rattle.std.proofs.Common.{ap, ◌∙◌, arith}
use Rattle.dual_rail.proofs.Common.{Arena}
use Rattle.dual_rail.proofs.LocalLemmas.{local-size, local-most, local-full, local-is}
use Rattle.dual_rail.proofs.diagram.local.Goals as goal

pub returns-in_err-top-clause-full : goal.returns-in_err-top-clause-full
returns-in_err-top-clause-full c is_full = grind (arith, local-full c.args.cover.now c.in-Ok.store c.expand_cover-expanded.new.store)

pub invariant_of-result : goal.invariant_of-result
invariant_of-result c = grind (arith, local-is c.args.cover.now c.in-Ok.store c.expand_cover-expanded.new.store)

pub returns-clause-diagram : goal.returns-clause-diagram
returns-clause-diagram c = grind arith

pub returns-clause-size : goal.returns-clause-size
returns-clause-size c = local-size c.args.cover.now c.in-Ok.store c.expand_cover-expanded.new.store (ap (λ (a : Arena). a.vars) c.in-Ok.ensures ∙ c.pins-pins.ensures.pins) (ap (λ (a : Arena). a.entries) c.in-Ok.ensures) c.laws.ensures c.expand_cover-expanded.ensures.keeps c.expand_cover-expanded.ensures.parts

pub returns-clause-most : goal.returns-clause-most
returns-clause-most c = local-most c.args.cover.now c.in-Ok.store c.expand_cover-expanded.new.store (ap (λ (a : Arena). a.vars) c.in-Ok.ensures ∙ c.pins-pins.ensures.pins) (ap (λ (a : Arena). a.entries) c.in-Ok.ensures) c.laws.ensures c.expand_cover-expanded.ensures.keeps c.expand_cover-expanded.ensures.parts
