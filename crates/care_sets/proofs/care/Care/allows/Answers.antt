use Rattle.std.proofs.Common.{◌≡◌, ◌++◌, true, Some, ap, sym, ◌∙◌}
use Rattle.std.specs.Option.{option_map_or}
use Rattle.care_sets.specs.Care.{CareSet, holds_at}
use Rattle.care_sets.proofs.care.Care.allows.Goals as goal

pub returns : goal.returns
returns c =
    let there : c.args.self.now.assume ≡ Some c.in-Some.model = ap (λ (care : CareSet). care.assume) (sym c.self.view_is) ∙ c.in-Some.is in
    c.in_ok-holds_at.ensures
    ∙ ap (holds_at c.in-Some.model) (c.deref.ensures.value ∙ c.in_ok-values.ensures)
    ∙ sym (ap (λ o. option_map_or (λ model. holds_at model (c.args.inputs.now ++ c.args.latches.now)) o true) there)
