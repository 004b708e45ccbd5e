use Rattle.std.proofs.Common.{◌≡◌, ◌+◌, ◌-◌, true, arith, get_or, length-set, ap}
use Rattle.bdd_store.specs.Arena.{index}
use Rattle.bdd_store.proofs.NodeLemmas.{plain}
use Rattle.bdd_ops.proofs.ReadLemmas.{AreMarkedDownTo-start, AreMarkedDownTo-skip, AreMarkedDownTo-entry, AreMarkedDownTo-all}
use Rattle.bdd_ops.proofs.least_by.mark_read.Goals as goal

pub loop-position-init : goal.loop-position-init
loop-position-init c = record { marked = AreMarkedDownTo-start c.args.store.now c.args.columns.now c.args.n c.args.reached.now c.args.read.now c.index.result c.index-position.result c.index.ensures c.index-position.ensures (omega (arith, c.index.ensures, c.requires.reached)) }

pub loop-position-preserved : goal.loop-position-preserved
loop-position-preserved c = record { marked = AreMarkedDownTo-skip c.args.store.now c.args.columns.now c.args.n c.loop-position.reached c.loop-position.read (c.loop-position.position - 1) c.loop-position.position (omega arith) c.if-reached-position.false c.loop-position.invariant.marked }

pub loop-position-preserved-then-reached-position : goal.loop-position-preserved-then-reached-position
loop-position-preserved-then-reached-position c =
    let e = c.at-entry.result in
    let p = c.loop-position.position - 1 in
    let at : index e ≡ p + 1 = (plain e p c.at-entry.ensures).0 in
    let placed_is : get_or c.args.columns.now c.top.result 0 ≡ _ = ap (λ k. get_or c.args.columns.now k 0) c.top.ensures.variable in
    let lo_earlier = c.lo.ensures.earlier in
    let hi_earlier = c.hi.ensures.earlier in
    let long = length-set c.args.reached.now c.index.result true in
    record {
      marked = AreMarkedDownTo-entry c.args.store.now c.laws.ensures c.args.columns.now c.requires.columns e c.lo.result c.hi.result p c.at-entry.ensures c.lo.ensures.within
          (record { node = c.lo.ensures.node; lower = c.lo.ensures.lower; function = c.lo.ensures.function })
          (record { node = c.hi.ensures.node; lower = c.hi.ensures.lower; function = c.hi.ensures.function })
          c.args.n c.loop-position.reached c.loop-position.read c.index-then-reached-position.result c.index-then-reached-position-2.result (get_or c.args.columns.now c.top.result 0) c.loop-position.position
          c.index-then-reached-position.ensures c.index-then-reached-position-2.ensures placed_is (omega arith)
          (omega (arith, placed_is, c.requires.columns.within _ c.lo.ensures.within, c.requires.read, c.loop-position.auto.read))
          (omega (arith, lo_earlier, at, c.index-then-reached-position.ensures, c.loop-position.auto.reached, c.loop-position.auto.position, long, c.requires.reached, c.index-position.ensures))
          (omega (arith, hi_earlier, at, c.index-then-reached-position-2.ensures, c.loop-position.auto.reached, c.loop-position.auto.position, long, c.requires.reached, c.index-position.ensures))
          (omega (arith, lo_earlier, at)) (omega (arith, hi_earlier, at)) c.loop-position.invariant.marked;
    }

pub returns : goal.returns
returns c = AreMarkedDownTo-all c.args.store.now c.args.columns.now c.args.n c.loop-position.reached c.loop-position.read c.loop-position.position (omega arith) c.loop-position.invariant.marked
