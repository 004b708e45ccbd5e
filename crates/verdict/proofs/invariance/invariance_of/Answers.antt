use Rattle.std.proofs.Common.{◌≡◌, ◌∙◌, None, subst, sym, ap}
use Rattle.std.specs.Option.{option_copied}
use Rattle.cyc_base.proofs.ListLemmas.{option_map-nothing}
use Rattle.verdict.proofs.Common.{CareSet, leaves_refusal}
use Rattle.verdict.proofs.DeterminationLemmas.{nothing_leaves}
use Rattle.verdict.proofs.invariance.invariance_of.Goals as goal

pub returns-in-None : goal.returns-in-None
returns-in-None c =
    let net = c.args.question.now.net in
    subst (λ (care : CareSet). leaves_refusal net care ≡ None) c.care.ensures.care
    (nothing_leaves net c.care.result.now (option_map-nothing _ _ (sym c.invariant.ensures.net ∙ ap option_copied c.in-None.is)))
