use Rattle.std.proofs.Common.{◌∙◌, ap, sym, subst, List}
use Rattle.isolation.proofs.Common.{All, Sig, Gate}
use Rattle.isolation.specs.Building.{IsAmong}
use Rattle.isolation.proofs.BuildingLemmas.{not_there}
use Rattle.isolation.proofs.excerpt.copy_gate.Goals as goal

pub returns-in_default-clause-some : goal.returns-in_default-clause-some
returns-in_default-clause-some c numerable among =
    let here = c.in_ok-pins.ensures.some numerable (subst (λ (pins : List Sig). All (IsAmong c.args.net.now c.args.gates.now c.args.outside.now.keys) pins) (sym (c.items.ensures ∙ ap (λ (g : Gate). g.pins) c.gate-from.ensures.at)) among) in
    absurd (not_there c.in_default.not-Some here)
