use Rattle.blif_write.proofs.LineLemmas.{latch_is}
use Rattle.blif_write.proofs.Common.{appended_then, appended_cut, appended_equal}
use Rattle.blif_write.proofs.latches.put_latch.Goals as goal

pub returns-in_err-write_whole : goal.returns-in_err-write_whole
returns-in_err-write_whole g c = appended_equal _ _ _ _ (latch_is c.args.net.now c.args.latch.now) (appended_cut _ _ _ _ _ c.in_err-write_whole.ensures c.from_residual.ensures.0)

pub returns-in_err-put_name : goal.returns-in_err-put_name
returns-in_err-put_name g c = appended_equal _ _ _ _ (latch_is c.args.net.now c.args.latch.now) (appended_then _ _ _ _ _ _ _ _ _ _ c.in_ok-write_whole.ensures (appended_cut _ _ _ _ _ c.in_err-put_name.ensures c.from_residual-in_err-put_name.ensures.0))

pub returns-in_err-put_word : goal.returns-in_err-put_word
returns-in_err-put_word g c = appended_equal _ _ _ _ (latch_is c.args.net.now c.args.latch.now) (rw (← c.bytes.ensures) (appended_then _ _ _ _ _ _ _ _ _ _ c.in_ok-write_whole.ensures (appended_then _ _ _ _ _ _ _ _ _ _ c.in_ok-put_name.ensures (appended_cut _ _ _ _ _ c.in_err-put_word.ensures c.from_residual-in_err-put_word.ensures.0))))

pub returns-in_err-put_control : goal.returns-in_err-put_control
returns-in_err-put_control g c = appended_equal _ _ _ _ (latch_is c.args.net.now c.args.latch.now) (rw (← c.bytes.ensures) (appended_then _ _ _ _ _ _ _ _ _ _ c.in_ok-write_whole.ensures (appended_then _ _ _ _ _ _ _ _ _ _ c.in_ok-put_name.ensures (appended_then _ _ _ _ _ _ _ _ _ _ c.in_ok-put_word.ensures (appended_cut _ _ _ _ _ c.in_err-put_control.ensures c.from_residual-in_err-put_control.ensures.0)))))

pub returns : goal.returns
returns g c = appended_equal _ _ _ _ (latch_is c.args.net.now c.args.latch.now) (rw (← c.bytes.ensures, ← c.init_word.ensures) (appended_then _ _ _ _ _ _ _ _ _ _ c.in_ok-write_whole.ensures (appended_then _ _ _ _ _ _ _ _ _ _ c.in_ok-put_name.ensures (appended_then _ _ _ _ _ _ _ _ _ _ c.in_ok-put_word.ensures (appended_then _ _ _ _ _ _ _ _ _ _ c.in_ok-put_control.ensures c.put_last_word.ensures)))))
