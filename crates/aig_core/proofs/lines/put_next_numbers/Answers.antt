use Rattle.std.proofs.Common.{◌++◌, arith}
use Rattle.aig_core.proofs.Common.{codes, decimal, appended_none, appended_copied, appended_in_copied, appended_items}
use Rattle.aig_core.proofs.lines.put_next_numbers.Goals as goal

pub loop-number-init : goal.loop-number-init
loop-number-init g c = appended_none _ _ _

pub loop-number-preserved : goal.loop-number-preserved
loop-number-preserved g c = appended_copied (λ number. codes " " ++ decimal number) c.args.numbers.now c.loop-number.number-index _ _ _ _ _ _ _ _ _ (omega arith) c.loop-number.invariant c.in_ok-put_numbered.ensures

pub returns-in_err-put_numbered : goal.returns-in_err-put_numbered
returns-in_err-put_numbered g c = appended_in_copied (λ number. codes " " ++ decimal number) c.args.numbers.now c.loop-number.number-index _ _ _ _ _ _ _ _ _ _ (omega arith) c.loop-number.invariant c.in_err-put_numbered.ensures c.from_residual.ensures.0

pub returns : goal.returns
returns g c = appended_items (λ number. codes " " ++ decimal number) c.args.numbers.now c.loop-number.number-index _ _ (omega arith) c.loop-number.invariant
