use Rattle.std.proofs.Common.{arith}
use Rattle.delay_core.proofs.EntryLemmas.{front-more, front-all}
use Rattle.delay_core.proofs.entries.write_moment.Goals as goal

pub loop-s-preserved : goal.loop-s-preserved
loop-s-preserved c =
    grind (arith, front-more c.args.moment c.loop-s.s c.args.values.now c.args.entries.now.items c.loop-s.entries.items c.write.new.entries.items c.args.newest.now.items c.loop-s.newest.items c.write.new.newest.items c.requires.moment)

pub returns-clause-written : goal.returns-clause-written
returns-clause-written c = grind (arith, front-all c.args.moment c.args.values.now c.args.entries.now.items c.loop-s.entries.items c.args.newest.now.items c.loop-s.newest.items c.requires.width)
