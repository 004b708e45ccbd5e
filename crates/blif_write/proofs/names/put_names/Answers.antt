use Rattle.std.proofs.Common.{arith}
use Rattle.blif_write.proofs.Common.{signal_name, behind, appended_none, appended_items}
use Rattle.cyc_io.proofs.ItemLemmas.{appended_copied, appended_in_copied}
use Rattle.blif_write.proofs.names.put_names.Goals as goal

pub loop-sig-init : goal.loop-sig-init
loop-sig-init g c = appended_none _ _ _

pub loop-sig-preserved : goal.loop-sig-preserved
loop-sig-preserved g c = appended_copied (λ sig. behind (signal_name c.args.net.now sig)) c.args.sigs.now c.loop-sig.sig-index _ _ _ _ _ _ _ _ _ (omega arith) c.loop-sig.invariant c.in_ok-put_name.ensures

pub returns-in_err-put_name : goal.returns-in_err-put_name
returns-in_err-put_name g c = appended_in_copied (λ sig. behind (signal_name c.args.net.now sig)) c.args.sigs.now c.loop-sig.sig-index _ _ _ _ _ _ _ _ _ _ (omega arith) c.loop-sig.invariant c.in_err-put_name.ensures c.from_residual.ensures.0

pub returns : goal.returns
returns g c = appended_items (λ sig. behind (signal_name c.args.net.now sig)) c.args.sigs.now c.loop-sig.sig-index _ _ (omega arith) c.loop-sig.invariant
