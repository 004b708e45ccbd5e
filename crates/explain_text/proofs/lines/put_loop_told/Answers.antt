use Rattle.std.proofs.Common.{sym}
use Rattle.explain_text.proofs.Common.{appended_equal, counted_sweeps}
use Rattle.explain_text.proofs.LineLemmas.{lines_told}
use Rattle.explain_text.proofs.lines.put_loop_told.Goals as goal

pub returns : goal.returns
returns g c =
    appended_equal _ _ _ _
    (sym (lines_told c.args.counted.now.net (counted_sweeps c.args.counted.now) c.args.listed.number c.args.listed.first c.sweeps_of-sweeps.result c.args.read.now
    c.sweeps_of-sweeps.ensures c.requires.read))
    (rw c.looped.ensures.looped at c.put_told.ensures)
