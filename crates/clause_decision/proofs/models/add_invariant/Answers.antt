use Rattle.std.proofs.Common.{◌∙◌}
use Rattle.clause_decision.proofs.Common.{IfOk-weaker}
use Rattle.clause_decision.proofs.ModelLemmas.{held-says, held-within}
use Rattle.clause_decision.proofs.models.add_invariant.Goals as goal

pub add_model-requires-clause-given : goal.add_model-requires-clause-given
add_model-requires-clause-given c =
    held-within c.args.care.now.invariant c.in-Some.model.now c.invariant_columns.result.now c.args.first c.args.latches.now c.deref.result.now c.in-Some.ensures.net c.invariant_columns.ensures.columns c.requires.reads (c.deref.ensures.value ∙ c.in_ok-given.ensures)
    c.args.formula.now.variables c.requires.rails

pub returns : goal.returns
returns c =
    IfOk-weaker c.add_model.result _ _
    (held-says c.args.care.now.invariant c.in-Some.model.now c.invariant_columns.result.now c.args.first c.args.latches.now c.deref.result.now c.in-Some.ensures.net c.invariant_columns.ensures.columns c.requires.reads (c.deref.ensures.value ∙ c.in_ok-given.ensures)
    c.args.formula.now c.add_model.new.formula)
    c.add_model.ensures
