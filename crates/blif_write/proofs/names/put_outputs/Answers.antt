use Rattle.std.proofs.Common.{codes}
use Rattle.blif_write.proofs.LineLemmas.{signals_is}
use Rattle.blif_write.proofs.Common.{appended_then, appended_cut, appended_equal}
use Rattle.blif_write.proofs.names.put_outputs.Goals as goal

pub returns-in_err-write_whole : goal.returns-in_err-write_whole
returns-in_err-write_whole g c = appended_equal _ _ _ _ (signals_is (codes ".outputs") c.args.net.now c.args.net.now.outputs) (appended_cut _ _ _ _ _ c.in_err-write_whole.ensures c.from_residual.ensures.0)

pub returns-in_err-put_names : goal.returns-in_err-put_names
returns-in_err-put_names g c = appended_equal _ _ _ _ (signals_is (codes ".outputs") c.args.net.now c.args.net.now.outputs) (rw (← c.outputs.ensures.outputs) (appended_then _ _ _ _ _ _ _ _ _ _ c.in_ok-write_whole.ensures (appended_cut _ _ _ _ _ c.in_err-put_names.ensures c.from_residual-in_err-put_names.ensures.0)))

pub returns : goal.returns
returns g c = appended_equal _ _ _ _ (signals_is (codes ".outputs") c.args.net.now c.args.net.now.outputs) (rw (← c.last_output.ensures, ← c.outputs.ensures.outputs) (appended_then _ _ _ _ _ _ _ _ _ _ c.in_ok-write_whole.ensures (appended_then _ _ _ _ _ _ _ _ _ _ c.in_ok-put_names.ensures c.put_end.ensures)))
