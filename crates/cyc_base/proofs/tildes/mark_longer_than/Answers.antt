use Rattle.std.proofs.Common.{rules, ◌≡◌, ◌++◌, ◌∷◌, [], replicate, ap, ◌∙◌, arith}
use Rattle.cyc_base.proofs.MarkLemmas.{tildes_push, tildes_all}
use Rattle.cyc_base.proofs.tildes.mark_longer_than.Goals as goal

pub returns : goal.returns
returns c = grind (arith, tildes_all c.args.longest, tildes_push c.args.longest)
