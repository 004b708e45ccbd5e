use Rattle.std.proofs.Common.{◌*◌, ◌+◌, length, take}
use Rattle.fixpoint.proofs.Common.{sum_by, HasGrown, IsWide, LoopSteps, IsComparedIn}
use Rattle.fixpoint.proofs.CountLemmas.{IsCounting}
use Rattle.fixpoint.proofs.counting.sweeps.Given as goal

abbrev pub invariant-loop-found : goal.invariant-loop-found
invariant-loop-found l = record {
  grows : HasGrown l.fn.d l.d (IsWide l.fn.d.vars (IsComparedIn l.fn.d l.care l.solved.loops)) (4 * (length l.blocks.home + 2) * sum_by (λ (loop : LoopSteps). length loop.cuts) (take l.found-index l.solved.loops));
  counting : IsCounting l.fn.d l.blocks l.care l.solved.loops l.found-index l.counts.items;
}
