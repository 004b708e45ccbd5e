use Rattle.std.proofs.Common.{◌∙◌, ap, rules, map, arith}
use Rattle.isolation.proofs.Common.{name_at}
use Rattle.isolation.proofs.BuildingLemmas.{not_there}
use Rattle.isolation.proofs.ValidLemmas.{parts_excerpt}
use Rattle.isolation.proofs.excerpt.excerpt_parts.Goals as goal

pub returns-in_default-clause-some : goal.returns-in_default-clause-some
returns-in_default-clause-some c numerable closed = absurd (not_there c.in_default.not-Some (c.in_ok-copies.ensures.some numerable closed))

pub returns-clause-small : goal.returns-clause-small
returns-clause-small c =
    parts_excerpt c.args.net.now c.args.outside.now.keys c.args.gates.now _ c.in_ok-inputs.inputs.items c.in-Some.copies.items c.requires.apart
    (search rules) (c.in_ok-inputs.ensures ∙ ap (map (name_at c.args.net.now)) c.as_slice.ensures.keys) (search rules) (search rules) (rw c.in-Some.is at c.in_ok-copies.ensures.copies)

pub returns-clause-named : goal.returns-clause-named
returns-clause-named c = grind arith
