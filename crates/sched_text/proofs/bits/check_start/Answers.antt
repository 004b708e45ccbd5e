use Rattle.std.proofs.Common.{true, false, ap, sym, ◌∙◌, arith}
use Rattle.sched_text.proofs.Common.{option_map}
use Rattle.sched_text.specs.declared.fault.SchedFault.TheVariants.{BadStart}
use Rattle.sched_text.proofs.StartLemmas.{start_here}
use Rattle.sched_text.proofs.bits.check_start.Goals as goal

pub returns-then-not-permits : goal.returns-then-not-permits
returns-then-not-permits c =
    sym (ap (option_map (BadStart c.args.line)) (start_here c.args.net.now.latches c.args.bits.now c.loop-latch.latch c.latch.result.now _ false
    c.loop-latch.invariant c.latch.ensures.latch (omega arith) (omega arith) (sym c.permits.ensures ∙ c.if-not-permits.true)))

pub loop-latch-preserved : goal.loop-latch-preserved
loop-latch-preserved c =
    start_here c.args.net.now.latches c.args.bits.now c.loop-latch.latch c.latch.result.now _ true
    c.loop-latch.invariant c.latch.ensures.latch (omega arith) (omega arith) (sym c.permits.ensures ∙ c.if-not-permits.false)
