use Rattle.std.proofs.Common.{map, false, get_or, ap, ◌-◌, ◌∙◌}
use Rattle.cyc_base.specs.Values.{bit}
use Rattle.care_sets.proofs.ModelLemmas.{output_within_at, model_value_at}
use Rattle.care_sets.proofs.model.CareModel.holds_at.Goals as goal

pub is_one-requires : goal.is_one-requires
is_one-requires c =
    output_within_at c.args.self.now c.args.values.now c.deref.result.now c.deref-2.result.now c.outputs.result.now _
    c.outputs.ensures.valid c.requires.model.outputs c.requires.model.latches c.requires.model.width
    (c.deref.ensures.value ∙ c.in_ok-given.ensures ∙ ap (map (λ column. bit (get_or c.args.values.now (column - c.args.self.now.first) false))) c.items.ensures) (c.deref-2.ensures.value ∙ c.in_ok-wires.ensures) c.outputs.ensures.outputs

pub returns : goal.returns
returns c =
    c.is_one.ensures
    ∙ model_value_at c.args.self.now c.args.values.now c.deref.result.now c.deref-2.result.now c.outputs.result.now _
    c.requires.model.outputs
    (c.deref.ensures.value ∙ c.in_ok-given.ensures ∙ ap (map (λ column. bit (get_or c.args.values.now (column - c.args.self.now.first) false))) c.items.ensures) (c.deref-2.ensures.value ∙ c.in_ok-wires.ensures) c.outputs.ensures.outputs
