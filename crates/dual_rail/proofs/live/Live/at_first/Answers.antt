use Rattle.std.proofs.Common.{length}
use Rattle.dual_rail.proofs.Common.{range_with_len}
use Rattle.dual_rail.proofs.ClassLemmas.{MatchAlike-classes}
use Rattle.dual_rail.proofs.LiveLemmas.{MatchAlike-of}
use Rattle.dual_rail.proofs.live.Live.at_first.Goals as goal

pub returns-clause-rows : goal.returns-clause-rows
returns-clause-rows c =
    MatchAlike-of c.args.rows.now 0 c.in_ok-live.live.items (range_with_len 0 (length c.args.rows.now)) c.gathered.result c.gathered.ensures.rows
    (MatchAlike-classes c.args.rows.now c.args.classes.now c.requires 0 (range_with_len 0 (length c.args.rows.now)) c.in_ok-live.live.items c.in_ok-live.ensures)
