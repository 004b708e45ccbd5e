use Rattle.std.proofs.Common.{arith}
use Rattle.blif_write.proofs.Common.{signal, signal_name, behind, appended_none, appended_item, appended_in_item, appended_items}
use Rattle.blif_write.proofs.NameLemmas.{input_item}
use Rattle.blif_write.proofs.names.put_input_names.Goals as goal

pub loop-i-init : goal.loop-i-init
loop-i-init g c = appended_none _ _ _

pub loop-i-preserved : goal.loop-i-preserved
loop-i-preserved g c = appended_item behind c.args.net.now.inputs c.loop-i.i (signal_name c.args.net.now (signal c.loop-i.i)) _ _ _ _ _ _ _ _ (omega arith) (input_item c.args.net.now c.loop-i.i (omega arith)) c.loop-i.invariant c.in_ok-put_name.ensures

pub returns-in_err-put_name : goal.returns-in_err-put_name
returns-in_err-put_name g c = appended_in_item behind c.args.net.now.inputs c.loop-i.i (signal_name c.args.net.now (signal c.loop-i.i)) _ _ _ _ _ _ _ _ _ (omega arith) (input_item c.args.net.now c.loop-i.i (omega arith)) c.loop-i.invariant c.in_err-put_name.ensures c.from_residual.ensures.0

pub returns : goal.returns
returns g c = appended_items behind c.args.net.now.inputs c.loop-i.i _ _ (omega arith) c.loop-i.invariant
