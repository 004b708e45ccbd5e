use Rattle.std.proofs.Common.{suc, sym, ◌∙◌, arith, true≢false}
use Rattle.bdd_store.specs.Arena.{index}
use Rattle.bdd_ops.proofs.DecideLemmas.{AreDecided-start, AreDecided-zero, AreDecided-one, Takes-unread, true_somewhere}
use Rattle.bdd_ops.proofs.least_by.decide.Goals.{then-read-column+then-not-is_possible, else-read-column, else-read-column-via-then-read-column+else-not-is_possible, else-read-column-via-else-read-column}
use Rattle.bdd_ops.proofs.least_by.decide.Goals as goal

pub loop-column-init : goal.loop-column-init
loop-column-init c = record { decided = AreDecided-start _ _ _ (true_somewhere c.args.store.now c.laws.ensures c.args.columns.now c.requires.columns (suc (index c.args.n)) c.args.n (omega arith) c.requires.node c.requires.alive) }

pub loop-column-preserved : goal.loop-column-preserved
loop-column-preserved c =
    let out = c.loop-column.out in
    let column = c.loop-column.column in
    let long = c.loop-column.auto.out ∙ c.requires.bits in
    elim c.if-read-column.branch [
      | then-read-column+then-not-is_possible w ↦ record { decided = rw w.out-is (AreDecided-one _ _ out column long (omega (arith, c.loop-column.auto.out)) c.loop-column.invariant.decided (λ t. true≢false (sym (w.is_possible.ensures.1 t) ∙ w.if-not-is_possible.true))) }
      | else-read-column w ↦ elim w.else-read-column.branch [
        | else-read-column-via-then-read-column+else-not-is_possible v ↦ record { decided = rw w.out-is (AreDecided-zero _ _ out column long (omega (arith, c.loop-column.auto.out)) c.loop-column.invariant.decided (v.is_possible.ensures.0 v.if-not-is_possible.false)) }
        | else-read-column-via-else-read-column v ↦ record { decided = rw w.out-is (AreDecided-zero _ _ out column long (omega (arith, c.loop-column.auto.out)) c.loop-column.invariant.decided (Takes-unread _ _ out column long (omega (arith, c.loop-column.auto.out)) c.loop-column.invariant.decided (c.requires.read column v.if-read-column.false))) }
      ]
    ]
