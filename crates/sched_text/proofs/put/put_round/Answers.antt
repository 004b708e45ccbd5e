use Rattle.sched_text.proofs.Common.{appended_then, appended_cut}
use Rattle.sched_text.proofs.put.put_round.Goals as goal

pub returns-in_err-write_whole-clause-text : goal.returns-in_err-write_whole-clause-text
returns-in_err-write_whole-clause-text g c = appended_cut _ _ _ _ _ c.in_err-write_whole.ensures c.from_residual.ensures.0

pub returns-clause-text : goal.returns-clause-text
returns-clause-text g c = appended_then _ _ _ _ _ _ _ _ _ _ c.in_ok-write_whole.ensures c.put_events.ensures.text
