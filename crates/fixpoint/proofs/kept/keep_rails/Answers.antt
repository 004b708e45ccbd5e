use Rattle.std.proofs.Common.{get_or, refl, ◌∙◌}
use Rattle.std.proofs.lemmas.List.Elements.{All-nil}
use Rattle.fixpoint.proofs.Common.{AreKept, take_all, unknown}
use Rattle.fixpoint.proofs.KeptLemmas.{GainsRoots-refl, GainsRoots_chain, AreRailsOf-gained, AreKept-gained, rails_under-gained, more-kept}
use Rattle.fixpoint.proofs.kept.keep_rails.Goals as goal

pub loop-one-preserved : goal.loop-one-preserved
loop-one-preserved c =
    let inv = c.loop-one.invariant in
    let gains = c.in_ok-root.ensures.gains in
    let more = more-kept c.args.rails.now c.loop-one.kept.items c.loop-one.one-index c.in_ok-root.root unknown (λ x is. (AreKept-gained gains x is, rails_under-gained gains x is)) c.loop-one-test.true
    inv.keys inv.rails c.in_ok-root.ensures.kept c.in_ok-root.ensures.rails in
    record { gains = GainsRoots_chain inv.gains gains; keys = rw c.in_ok-push.ensures.items more.0; rails = rw c.in_ok-push.ensures.items more.1 }

pub keep-requires : goal.keep-requires
keep-requires c = AreRailsOf-gained c.loop-one.invariant.gains (get_or c.args.rails.now c.loop-one.one-index unknown) (c.requires c.loop-one.one-index unknown c.loop-one-test.true)

pub loop-one-init : goal.loop-one-init
loop-one-init c = rw c.in_ok-kept.ensures.items (record { gains = GainsRoots-refl c.args.d.now; keys = All-nil (AreKept c.args.d.now); rails = refl })

pub returns-in_err-root-clause-gains : goal.returns-in_err-root-clause-gains
returns-in_err-root-clause-gains c = GainsRoots_chain c.loop-one.invariant.gains c.keep.ensures.gains

pub returns-in_err-push-clause-gains : goal.returns-in_err-push-clause-gains
returns-in_err-push-clause-gains c = GainsRoots_chain c.loop-one.invariant.gains c.in_ok-root.ensures.gains

pub returns-clause-kept : goal.returns-clause-kept
returns-clause-kept c = c.loop-one.invariant.keys

pub returns-clause-rails : goal.returns-clause-rails
returns-clause-rails c = c.loop-one.invariant.rails ∙ take_all c.loop-one.one-index c.args.rails.now c.loop-one-test.false

pub returns-clause-gains : goal.returns-clause-gains
returns-clause-gains c = c.loop-one.invariant.gains
