use Rattle.std.proofs.Common.{arith}
use Rattle.case_split.proofs.CaseLemmas.{heads_next}
use Rattle.case_split.proofs.heads.heads_of.Goals as goal

pub loop-gate-preserved : goal.loop-gate-preserved
loop-gate-preserved c =
    grind (arith, c.in_ok-push.ensures.items, heads_next c.args.base.now.net.now c.args.base.now.copied.now c.args.roots.now c.loop-gate.gate c.loop-gate.heads.items c.in_ok-head_of.field-0 c.loop-gate.invariant c.in_ok-head_of.ensures)
