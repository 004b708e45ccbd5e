use Rattle.std.proofs.Common.{◌∙◌, ℕ, List, sym, subst}
use Rattle.case_split.specs.Pins.{ArePinsOf}
use Rattle.case_split.proofs.choosing.choose_by.Goals as goal

pub choose_on-requires-clause-pins : goal.choose_on-requires-clause-pins
choose_on-requires-clause-pins c =
    subst (λ (firsts : List ℕ). ArePinsOf c.args.cases.now firsts c.deref-3.result.now) (c.deref.ensures.value ∙ sym c.deref-2.ensures.value)
    (subst (ArePinsOf c.args.cases.now c.deref.result.now) (sym c.deref-3.ensures.value) c.in_ok-pins.ensures)
