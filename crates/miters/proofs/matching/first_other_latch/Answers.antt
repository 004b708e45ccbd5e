use Rattle.std.proofs.Common.{not, ap, sym, ◌∙◌, arith}
use Rattle.miters.proofs.Common.{Latch, has_latch}
use Rattle.miters.proofs.NameLemmas.{find_next, find_here}
use Rattle.miters.proofs.matching.first_other_latch.Goals as goal

pub loop-number-preserved : goal.loop-number-preserved
loop-number-preserved c =
    find_next (λ (item : Latch). not (has_latch c.args.other.now item)) c.args.net.now.latches c.loop-number.number c.latch-latch.result.now c.loop-number.invariant c.latch-latch.ensures.latch
    (ap not (sym c.has_latch.ensures ∙ c.if-not-has_latch.false))

pub returns-then-not-has_latch : goal.returns-then-not-has_latch
returns-then-not-has_latch c = grind (arith, find_here)
