use Rattle.std.proofs.Common.{arith, [], ◌∷◌}
use Rattle.blif_write.proofs.Common.{lit_byte, appended_none, appended_items}
use Rattle.cyc_io.proofs.ItemLemmas.{appended_copied, appended_in_copied}
use Rattle.blif_write.proofs.gates.put_lits.Goals as goal

pub loop-lit-init : goal.loop-lit-init
loop-lit-init g c = appended_none _ _ _

pub loop-lit-preserved : goal.loop-lit-preserved
loop-lit-preserved g c = appended_copied (λ lit. lit_byte lit ∷ []) c.args.lits.now c.loop-lit.lit-index _ _ _ _ _ _ _ _ _ (omega arith) c.loop-lit.invariant (rw c.lit_text.ensures at c.in_ok-write_whole.ensures)

pub returns-in_err-write_whole : goal.returns-in_err-write_whole
returns-in_err-write_whole g c = appended_in_copied (λ lit. lit_byte lit ∷ []) c.args.lits.now c.loop-lit.lit-index _ _ _ _ _ _ _ _ _ _ (omega arith) c.loop-lit.invariant (rw c.lit_text.ensures at c.in_err-write_whole.ensures) c.from_residual.ensures.0

pub returns : goal.returns
returns g c = appended_items (λ lit. lit_byte lit ∷ []) c.args.lits.now c.loop-lit.lit-index _ _ (omega arith) c.loop-lit.invariant
