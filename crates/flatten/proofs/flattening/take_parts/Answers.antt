use Rattle.std.proofs.Common.{arith}
use Rattle.cyc_base.specs.declared.limits.TheConstants.{MAX_DEPTH, MAX_FLAT_ITEMS}
use Rattle.flatten.proofs.OwnLines.{is_flat_alone}
use Rattle.flatten.proofs.flattening.take_parts.Goals as goal

pub returns-clause-parts : goal.returns-clause-parts
returns-clause-parts c =
    let models = c.args.models.list in
    grind (arith, is_flat_alone MAX_DEPTH MAX_FLAT_ITEMS models c.args.place c.requires.alone)

pub returns-clause-fault : goal.returns-clause-fault
returns-clause-fault c =
    let models = c.args.models.list in
    grind (arith, is_flat_alone MAX_DEPTH MAX_FLAT_ITEMS models c.args.place c.requires.alone)
