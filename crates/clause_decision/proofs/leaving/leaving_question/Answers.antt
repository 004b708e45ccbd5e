use Rattle.std.proofs.Common.{rules}
use Rattle.clause_decision.proofs.LeavingLemmas.{latch-columns, loads-within, leaving-question}
use Rattle.clause_decision.proofs.leaving.leaving_question.Goals as goal

pub loads_of-requires-clause-columns : goal.loads_of-requires-clause-columns
loads_of-requires-clause-columns c = latch-columns c.args.net.now c.args.care.now c.invariant_columns.result.now c.requires.care c.invariant_columns.ensures.columns

pub add_model-requires-clause-given : goal.add_model-requires-clause-given
add_model-requires-clause-given c =
    loads-within c.args.net.now c.in_ok-cone.cone.rails.items c.in_ok-cone.cone.formula.variables c.invariant_columns.result.now c.deref-3.result.now c.columns-width.ensures.valid c.in_ok-cone.ensures.size c.in_ok-cone.ensures.within
    (latch-columns c.args.net.now c.args.care.now c.invariant_columns.result.now c.requires.care c.invariant_columns.ensures.columns)
    (search rules)

pub returns : goal.returns
returns c =
    leaving-question c.args.net.now c.args.care.now c.args.scope.now c.in_ok-cone.cone.formula c.add_model.new.formula c.in_ok-cone.cone.rails.items c.in_ok-loads.loads.items c.in_ok-cone.cone.inside c.in_ok-cone.cone.allowed c.in_ok-stays.stays
    c.args.invariant.now c.invariant_columns.result.now (record { formula = c.into_formula.result; columns = c.in_ok-columns.columns; assumed = c.in_ok-assumed.assumed })
    c.columns-width.ensures.valid c.requires.care c.in_ok-cone.ensures c.requires.loads c.requires.known c.requires.invariant c.invariant_columns.ensures.columns (search rules)
    (search rules) (search rules) (search rules) (search rules)
