use Rattle.std.proofs.Common.{[], refl, sym, ◌∙◌, subst}
use Rattle.std.proofs.lemmas.List.Elements.{All-nil}
use Rattle.fixpoint.proofs.Common.{All, AreKept, AreRailsOf, get_or_default, take_all}
use Rattle.fixpoint.proofs.KeptLemmas.{GainsRoots-refl, GainsRoots_chain, All-rails-gained, All-kept-gained, all_under-gained, more-kept}
use Rattle.fixpoint.proofs.keeping.keep_steps.Goals as goal

pub keep_rails-requires : goal.keep_rails-requires
keep_rails-requires c =
    All-rails-gained c.loop-step.invariant.gains c.items.result.now (subst (All (AreRailsOf c.args.d.now)) (sym (c.items.ensures ∙ c.step-item.is)) (c.requires c.loop-step.step-index c.step-item.result c.loop-step-test.true))

pub loop-step-preserved : goal.loop-step-preserved
loop-step-preserved c =
    let inv = c.loop-step.invariant in
    let gains = c.in_ok-kept.ensures.gains in
    let more = more-kept c.args.steps.now c.loop-step.list.items c.loop-step.step-index c.in_ok-kept.kept.items [] (λ xs all. (All-kept-gained gains xs all, all_under-gained gains xs all)) c.loop-step-test.true
    inv.keys inv.steps c.in_ok-kept.ensures.kept
    (c.in_ok-kept.ensures.rails ∙ c.items.ensures ∙ c.step-item.is ∙ get_or_default c.args.steps.now c.loop-step.step-index c.step-item.result [] c.loop-step-test.true) in
    record { gains = GainsRoots_chain inv.gains gains; keys = rw (c.in_ok-push.ensures.items, c.of.ensures) more.0; steps = rw (c.in_ok-push.ensures.items, c.of.ensures) more.1 }

pub loop-step-init : goal.loop-step-init
loop-step-init c = rw c.in_ok-list.ensures.items (record { gains = GainsRoots-refl c.args.d.now; keys = All-nil (All (AreKept c.args.d.now)); steps = refl })

pub returns-in_err-kept-clause-gains : goal.returns-in_err-kept-clause-gains
returns-in_err-kept-clause-gains c = GainsRoots_chain c.loop-step.invariant.gains c.keep_rails.ensures.gains

pub returns-in_err-push-clause-gains : goal.returns-in_err-push-clause-gains
returns-in_err-push-clause-gains c = GainsRoots_chain c.loop-step.invariant.gains c.in_ok-kept.ensures.gains

pub returns-clause-keys : goal.returns-clause-keys
returns-clause-keys c = c.loop-step.invariant.keys

pub returns-clause-steps : goal.returns-clause-steps
returns-clause-steps c = c.loop-step.invariant.steps ∙ take_all c.loop-step.step-index c.args.steps.now c.loop-step-test.false

pub returns-clause-gains : goal.returns-clause-gains
returns-clause-gains c = c.loop-step.invariant.gains
