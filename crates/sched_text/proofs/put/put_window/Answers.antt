use Rattle.sched_text.proofs.Common.{appended_equal}
use Rattle.sched_text.proofs.WrittenTexts.{window_is}
use Rattle.sched_text.proofs.put.put_window.Goals as goal

pub returns : goal.returns
returns g c = appended_equal _ _ _ _ (window_is c.args.window) c.put_number_between.ensures
