use Rattle.std.proofs.Common.{refl, length, arith}
use Rattle.explanations.proofs.NeedLemmas.{needing_first, needing_next, tries_fall}
use Rattle.explanations.proofs.needs.hold.Goals as goal

pub loop-run-init : goal.loop-run-init
loop-run-init c = record {
  simulator = grind arith;
  known = c.in_ok-holding.ensures.known;
  needing =
      needing_first c.args.net.now c.args.vector.now c.args.gates.now c.args.kept.now c.in_ok-holding.holding.given.items c.in_ok-holding.holding.marks.items
      c.in_ok-holding.ensures.holding c.in_ok-holding.ensures.given c.requires.kept c.in_ok-holding.ensures.all c.requires.gates;
  within = grind arith;
  some = λ l. grind arith;
}

pub loop-run-smaller : goal.loop-run-smaller
loop-run-smaller c =
    tries_fall (length c.args.vector.now) c.loop-run.run c.next-run.result c.in_ok-out.out (grind arith) c.loop-run.invariant.within c.next-run.ensures

pub loop-run-preserved : goal.loop-run-preserved
loop-run-preserved c = record {
  simulator = c.leave_out.ensures.simulator;
  known = c.in_ok-out.ensures.known;
  needing =
      needing_next c.args.net.now c.args.vector.now c.args.gates.now c.args.kept.now c.loop-run.run.first c.loop-run.holding.given.items c.loop-run.holding.marks.items c.loop-run.invariant.needing
      (length c.args.vector.now) c.loop-run.run c.next-run.result c.loop-run.holding c.leave_out.new.holding c.in_ok-out.out refl refl refl c.in_ok-out.ensures.tried c.next-run.ensures;
  within = c.next-run.ensures.within;
  some = c.next-run.ensures.some;
}

pub leave_out-requires-clause-gates : goal.leave_out-requires-clause-gates
leave_out-requires-clause-gates c = grind arith

pub returns : goal.returns
returns c = grind arith
