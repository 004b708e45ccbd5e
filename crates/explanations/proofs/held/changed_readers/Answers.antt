use Rattle.std.proofs.Common.{◌≡◌, ◌∙◌, ℕ, get_or, sym, subst, refl, arith}
use Rattle.std.proofs.lemmas.List.{get_or_default}
use Rattle.cyc_base.specs.declared.trit.Trit.TheVariants.{Zero, X}
use Rattle.netlist.specs.Netlists.{count}
use Rattle.explanations.specs.Held.{AreChangedReaders}
use Rattle.explanations.proofs.HeldLemmas.{changed_none, changed_next, changed_not}
use Rattle.explanations.proofs.held.changed_readers.Goals as goal
use Rattle.explanations.proofs.held.changed_readers.Goals.{then-ne+in_ok-queue_readers, else-ne}

pub loop-signal-init : goal.loop-signal-init
loop-signal-init c = rw c.new-queue.ensures.items (changed_none c.args.net.now c.args.before.now c.args.known.now)

pub loop-signal-preserved : goal.loop-signal-preserved
loop-signal-preserved c =
    let net = c.args.net.now in
    let before = c.args.before.now in
    let known = c.args.known.now in
    let signal = c.loop-signal.signal in
    let queue = c.loop-signal.queue.items in
    let size = c.requires.before in
    let known_size = c.requires.known in
    let end = c.loop-signal-test.true in
    let counted = c.count-signal-end.ensures.count in
    let own : get_or before signal X ≡ get_or before signal Zero = get_or_default before signal X Zero (omega arith) in
    let other : get_or known signal X ≡ get_or known signal Zero = get_or_default known signal X Zero (omega arith) in
    elim c.if-ne.branch [
      | then-ne+in_ok-queue_readers w ↦
          rw (w.queue-is, w.in_ok-queue_readers.ensures)
          (changed_next net before known signal queue c.loop-signal.invariant c.args.fanout.now (record { 0 = signal }) c.requires.readers refl)
      | else-ne w ↦
          let alike : get_or before signal Zero ≡ get_or known signal Zero = grind arith in
          rw w.queue-is (changed_not net before known signal queue c.loop-signal.invariant (own ∙ alike ∙ sym other))
    ]

pub returns : goal.returns
returns c =
    let end = c.loop-signal-test.false in
    let last = c.loop-signal.auto.signal-end in
    let counted = c.count-signal-end.ensures.count in
    let there : c.loop-signal.signal ≡ count c.args.net.now = omega arith in
    subst (λ (n : ℕ). AreChangedReaders c.args.net.now c.args.before.now c.args.known.now n c.loop-signal.queue.items) there c.loop-signal.invariant
