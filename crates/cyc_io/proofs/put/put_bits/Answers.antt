use Rattle.std.proofs.Common.{arith}
use Rattle.cyc_io.specs.Bits.{bit_text}
use Rattle.cyc_io.proofs.TakenLemmas.{appended_none}
use Rattle.cyc_io.proofs.ItemLemmas.{appended_copied, appended_in_copied, appended_items}
use Rattle.cyc_io.proofs.put.put_bits.Goals as goal

pub loop-bit-init : goal.loop-bit-init
loop-bit-init g c = appended_none _ _ _

pub loop-bit-preserved : goal.loop-bit-preserved
loop-bit-preserved g c = appended_copied bit_text c.args.bits.now c.loop-bit.bit-index _ _ _ _ _ _ _ _ _ (omega arith) c.loop-bit.invariant (rw c.bit_text.ensures at c.in_ok-write_whole.ensures)

pub returns-in_err-write_whole : goal.returns-in_err-write_whole
returns-in_err-write_whole g c = appended_in_copied bit_text c.args.bits.now c.loop-bit.bit-index _ _ _ _ _ _ _ _ _ _ (omega arith) c.loop-bit.invariant (rw c.bit_text.ensures at c.in_err-write_whole.ensures) c.from_residual.ensures.0

pub returns : goal.returns
returns g c = appended_items bit_text c.args.bits.now c.loop-bit.bit-index _ _ (omega arith) c.loop-bit.invariant
