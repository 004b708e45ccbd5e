use Rattle.std.proofs.Common.{arith}
use Rattle.dot_text.specs.Dot.{quoted_byte}
use Rattle.dot_text.proofs.Common.{appended_none, appended_copied, appended_in_copied, appended_items}
use Rattle.dot_text.proofs.node.put_quoted.Goals as goal

pub loop-byte-init : goal.loop-byte-init
loop-byte-init g c = appended_none _ _ _

pub loop-byte-preserved : goal.loop-byte-preserved
loop-byte-preserved g c = appended_copied (quoted_byte) c.args.text.now c.loop-byte.byte-index _ _ _ _ _ _ _ _ _ (omega arith) c.loop-byte.invariant c.in_ok-put_byte.ensures

pub returns-in_err-put_byte : goal.returns-in_err-put_byte
returns-in_err-put_byte g c = appended_in_copied (quoted_byte) c.args.text.now c.loop-byte.byte-index _ _ _ _ _ _ _ _ _ _ (omega arith) c.loop-byte.invariant c.in_err-put_byte.ensures c.from_residual.ensures.0

pub returns : goal.returns
returns g c = appended_items (quoted_byte) c.args.text.now c.loop-byte.byte-index _ _ (omega arith) c.loop-byte.invariant
