use Rattle.std.proofs.Common.{sym, subst, ◌∙◌, arith}
use Rattle.miters.proofs.Common.{IfOk-weaker, IsCareOf, CareSet}
use Rattle.miters.proofs.ReboundLemmas.{assume_again, invariant_again, rebound_is_care, rebound_told}
use Rattle.miters.proofs.rebinding.rebind.Goals as goal

pub bind_models-requires-clause-assume : goal.bind_models-requires-clause-assume
bind_models-requires-clause-assume c = grind (arith, assume_again c.args.a.now c.args.b.now c.args.care.now c.in_ok-assume.assume c.requires.matched c.requires.care c.assume.ensures.valid)

pub bind_models-requires-clause-invariant : goal.bind_models-requires-clause-invariant
bind_models-requires-clause-invariant c = grind (arith, invariant_again c.args.a.now c.args.b.now c.args.care.now c.in_ok-invariant.invariant c.requires.matched c.requires.care c.assume.ensures.valid)

pub returns-clause-same : goal.returns-clause-same
returns-clause-same c =
    IfOk-weaker c.bind_models.result _ _ (λ other binds.
    rebound_told c.args.b.now c.args.care.now other c.in_ok-assume.assume c.in_ok-invariant.invariant
    (c.in_ok-assume.ensures ∙ c.assume.ensures.net) (c.in_ok-invariant.ensures ∙ c.invariant.ensures.net) binds)
    c.bind_models.ensures

pub returns-clause-fits : goal.returns-clause-fits
returns-clause-fits c =
    IfOk-weaker c.bind_models.result _ _ (λ other binds.
    subst (λ (o : CareSet). IsCareOf c.args.b.now o)
    (sym (rebound_told c.args.b.now c.args.care.now other c.in_ok-assume.assume c.in_ok-invariant.invariant
    (c.in_ok-assume.ensures ∙ c.assume.ensures.net) (c.in_ok-invariant.ensures ∙ c.invariant.ensures.net) binds))
    (rebound_is_care c.args.a.now c.args.b.now c.args.care.now c.requires.matched c.requires.care c.assume.ensures.valid))
    c.bind_models.ensures
