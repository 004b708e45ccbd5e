use Rattle.std.proofs.Common.{arith}
use Rattle.report.proofs.Common.{appended_then, appended_cut}
use Rattle.report.proofs.help.put_help.Goals as goal

pub returns-in_err-write_whole : goal.returns-in_err-write_whole
returns-in_err-write_whole g c = rw (← c.head.ensures) (appended_cut _ _ _ _ _ c.in_err-write_whole.ensures c.from_residual.ensures.0)

pub returns-in_err-put_topics : goal.returns-in_err-put_topics
returns-in_err-put_topics g c =
    rw (← c.head.ensures, ← c.topics.ensures)
    (appended_then _ _ _ _ _ _ _ _ _ _ c.in_ok-write_whole.ensures (appended_cut _ _ _ _ _ c.in_err-put_topics.ensures c.from_residual-in_err-put_topics.ensures.0))

pub returns : goal.returns
returns g c =
    grind (arith, appended_then _ _ _ _ _ _ _ _ _ _ c.in_ok-write_whole.ensures (appended_then _ _ _ _ _ _ _ _ _ _ c.in_ok-put_topics.ensures c.write_whole-2.ensures), appended_then _ _ _ _ _ _ _ _ _ _ c.in_ok-put_topics.ensures c.write_whole-2.ensures)
