use Rattle.explanations.proofs.HeldLemmas.{shrinking_first, shrinking_next, looks_fall}
use Rattle.explanations.proofs.held.shrink.Goals as goal

pub loop-gate-preserved : goal.loop-gate-preserved
loop-gate-preserved c =
    shrinking_next c.args.net.now c.args.known.now c.args.fanout.now c.args.marks.now c.requires.readers c.requires.unknown c.loop-gate.marks c.in-Some.gate c.pop_front.new.self.items
    (rw c.in-Some.ensures.items at c.loop-gate.invariant) c.look_at.new.marks c.look_at.new.queue.items c.in_ok-look_at.ensures

pub loop-gate-smaller : goal.loop-gate-smaller
loop-gate-smaller c =
    rw c.in-Some.ensures.items
    (looks_fall c.args.net.now c.args.known.now c.args.fanout.now c.args.marks.now c.requires.readers c.requires.unknown c.loop-gate.marks c.in-Some.gate c.pop_front.new.self.items
    (rw c.in-Some.ensures.items at c.loop-gate.invariant) c.look_at.new.marks c.look_at.new.queue.items c.in_ok-look_at.ensures)

pub loop-gate-init : goal.loop-gate-init
loop-gate-init c =
    shrinking_first c.args.net.now c.args.known.now c.args.fanout.now c.args.marks.now c.requires.readers c.requires.unknown c.args.before.now c.in_ok-queue.queue.items
    c.requires.before c.requires.known c.requires.held c.in_ok-queue.ensures
