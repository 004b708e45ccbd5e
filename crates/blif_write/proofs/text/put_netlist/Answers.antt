use Rattle.blif_write.proofs.LineLemmas.{written_is}
use Rattle.blif_write.proofs.Common.{appended_then, appended_cut, appended_equal}
use Rattle.blif_write.proofs.text.put_netlist.Goals as goal

pub returns-in_err-put_head-clause-text : goal.returns-in_err-put_head-clause-text
returns-in_err-put_head-clause-text g c = appended_equal _ _ _ _ (written_is c.args.net.now) (appended_cut _ _ _ _ _ c.in_err-put_head.ensures c.from_residual.ensures.0)

pub returns-in_err-put_latches-clause-text : goal.returns-in_err-put_latches-clause-text
returns-in_err-put_latches-clause-text g c = appended_equal _ _ _ _ (written_is c.args.net.now) (appended_then _ _ _ _ _ _ _ _ _ _ c.in_ok-put_head.ensures (appended_cut _ _ _ _ _ c.in_err-put_latches.ensures c.from_residual-in_err-put_latches.ensures.0))

pub returns-in_err-put_gates-clause-text : goal.returns-in_err-put_gates-clause-text
returns-in_err-put_gates-clause-text g c = appended_equal _ _ _ _ (written_is c.args.net.now) (appended_then _ _ _ _ _ _ _ _ _ _ c.in_ok-put_head.ensures (appended_then _ _ _ _ _ _ _ _ _ _ c.in_ok-put_latches.ensures (appended_cut _ _ _ _ _ c.in_err-put_gates.ensures.text c.from_residual-in_err-put_gates.ensures.0)))

pub returns-clause-text : goal.returns-clause-text
returns-clause-text g c = appended_equal _ _ _ _ (written_is c.args.net.now) (appended_then _ _ _ _ _ _ _ _ _ _ c.in_ok-put_head.ensures (appended_then _ _ _ _ _ _ _ _ _ _ c.in_ok-put_latches.ensures (appended_then _ _ _ _ _ _ _ _ _ _ c.in_ok-put_gates.ensures.text c.write_whole.ensures)))
