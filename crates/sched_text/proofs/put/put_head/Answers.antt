use Rattle.sched_text.proofs.Common.{appended_then, appended_cut}
use Rattle.sched_text.proofs.put.put_head.Goals as goal

pub returns-in_err-write_whole-clause-text : goal.returns-in_err-write_whole-clause-text
returns-in_err-write_whole-clause-text g c = appended_cut _ _ _ _ _ c.in_err-write_whole.ensures c.from_residual.ensures.0

pub returns-in_err-put_window-clause-text : goal.returns-in_err-put_window-clause-text
returns-in_err-put_window-clause-text g c = appended_then _ _ _ _ _ _ _ _ _ _ c.in_ok-write_whole.ensures (appended_cut _ _ _ _ _ c.in_err-put_window.ensures c.from_residual-in_err-put_window.ensures.0)

pub returns-in_err-put_past-clause-text : goal.returns-in_err-put_past-clause-text
returns-in_err-put_past-clause-text g c = rw (← c.items.ensures) (appended_then _ _ _ _ _ _ _ _ _ _ c.in_ok-write_whole.ensures (appended_then _ _ _ _ _ _ _ _ _ _ c.in_ok-put_window.ensures (appended_cut _ _ _ _ _ c.in_err-put_past.ensures c.from_residual-in_err-put_past.ensures.0)))

pub returns-in_err-put_bits_line-clause-text : goal.returns-in_err-put_bits_line-clause-text
returns-in_err-put_bits_line-clause-text g c = rw (← c.items.ensures, ← c.start_word.ensures, ← c.items-2.ensures) (appended_then _ _ _ _ _ _ _ _ _ _ c.in_ok-write_whole.ensures (appended_then _ _ _ _ _ _ _ _ _ _ c.in_ok-put_window.ensures (appended_then _ _ _ _ _ _ _ _ _ _ c.in_ok-put_past.ensures (appended_cut _ _ _ _ _ c.in_err-put_bits_line.ensures c.from_residual-in_err-put_bits_line.ensures.0))))

pub returns-clause-text : goal.returns-clause-text
returns-clause-text g c = rw (← c.items.ensures, ← c.start_word.ensures, ← c.items-2.ensures, ← c.items-3.ensures) (appended_then _ _ _ _ _ _ _ _ _ _ c.in_ok-write_whole.ensures (appended_then _ _ _ _ _ _ _ _ _ _ c.in_ok-put_window.ensures (appended_then _ _ _ _ _ _ _ _ _ _ c.in_ok-put_past.ensures (appended_then _ _ _ _ _ _ _ _ _ _ c.in_ok-put_bits_line.ensures c.put_bits_line-2.ensures))))
