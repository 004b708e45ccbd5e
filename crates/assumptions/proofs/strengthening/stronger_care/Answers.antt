use Rattle.std.proofs.Common.{subst}
use Rattle.netlist.specs.declared.parts.Parts.{Parts}
use Rattle.assumptions.specs.Making.{IsBeside}
use Rattle.assumptions.proofs.CareLemmas.{excludes}
use Rattle.assumptions.proofs.strengthening.stronger_care.Goals as goal

pub returns-clause-excludes : goal.returns-clause-excludes
returns-clause-excludes c =
    excludes c.args.looped.now.net c.args.care.now c.args.rows.now c.in_ok-model.model c.in_ok-beside.field-0 c.in_ok-model.ensures.restricted c.in_ok-model.ensures.small
    (subst (λ (n : Parts). IsBeside n c.args.care.now c.in_ok-model.model c.in_ok-beside.field-0) c.net.ensures.net c.in_ok-beside.ensures)
