use Rattle.std.proofs.Common.{◌<◌, length, subst, arith}
use Rattle.ternary_clauses.proofs.Common.{CopiedLoop}
use Rattle.ternary_clauses.specs.Sweeps.{IsCopiedLoop}
use Rattle.ternary_clauses.proofs.SweepLemmas.{copied-none, copied-step, copy-kept}
use Rattle.ternary_clauses.proofs.sweeps.LoopCopy.bind_all.Goals as goal

pub loop-place-init : goal.loop-place-init
loop-place-init c = copied-none c.args.self.now c.args.formula.now c.requires.formula

pub bind-requires-clause-copy : goal.bind-requires-clause-copy
bind-requires-clause-copy c = copy-kept c.args.self.now c.args.formula.now c.loop-place.formula c.loop-place.invariant.grows c.requires

pub loop-place-preserved : goal.loop-place-preserved
loop-place-preserved c =
    let proper : IsCopiedLoop c.args.self.now = subst IsCopiedLoop c.self.view_is c.self.invariant in
    let inside : c.loop-place.place < length c.args.self.now.gates = subst (λ (l : CopiedLoop). c.loop-place.place < length l.gates) c.self.view_is (omega (arith, c.loop-place-test.true)) in
    copied-step c.args.self.now c.bind.ensures.valid proper c.args.formula.now c.loop-place.formula c.bind.new.formula c.loop-place.place inside c.requires c.loop-place.invariant c.in_ok-bind.ensures.copy
