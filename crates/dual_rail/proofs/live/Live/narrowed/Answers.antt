use Rattle.std.proofs.Common.{◌+◌}
use Rattle.dual_rail.proofs.Common.{narrowed}
use Rattle.dual_rail.proofs.ClassLemmas.{MatchAlike-classes}
use Rattle.dual_rail.proofs.LiveLemmas.{MatchAlike-of}
use Rattle.dual_rail.proofs.live.Live.narrowed.Goals as goal

pub returns-clause-rows : goal.returns-clause-rows
returns-clause-rows c =
    MatchAlike-of c.args.rows.now (c.args.self.now.pin + 1) c.in_ok-live.live.items (narrowed c.args.rows.now c.args.self.now.pin c.args.bit c.args.self.now.rows.items) c.gathered.result c.gathered.ensures.rows
    (MatchAlike-classes c.args.rows.now c.args.classes.now c.requires.classes (c.args.self.now.pin + 1) (narrowed c.args.rows.now c.args.self.now.pin c.args.bit c.args.self.now.rows.items) c.in_ok-live.live.items c.in_ok-live.ensures)
