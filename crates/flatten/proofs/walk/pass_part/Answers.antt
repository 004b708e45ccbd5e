use Rattle.std.proofs.Common.{arith}
use Rattle.flatten.proofs.Stepping.{fits_some, entered_at}
use Rattle.flatten.proofs.walk.pass_part.Goals as goal

pub inner_level-requires-clause-fits : goal.inner_level-requires-clause-fits
inner_level-requires-clause-fits c = fits_some c.args.hierarchy.now.depth c.args.hierarchy.now.models c.args.walk.now.levels.items c.args.level c.args.part.now c.requires.enters

pub returns-clause-passed : goal.returns-clause-passed
returns-clause-passed c = grind (arith, entered_at c.args.hierarchy.now.depth c.args.hierarchy.now.models c.args.walk.now.levels.items c.args.level c.args.part.now c.requires.enters)
