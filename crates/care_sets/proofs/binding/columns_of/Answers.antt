use Rattle.std.proofs.Common.{arith}
use Rattle.std.proofs.lemmas.Result.{err_from_is_err_and}
use Rattle.care_sets.proofs.BindingLemmas.{columns_start, columns_more, columns_all, first_unknown_name}
use Rattle.care_sets.proofs.binding.columns_of.Goals as goal

pub loop-number-init : goal.loop-number-init
loop-number-init c = rw c.new-columns.ensures.items (columns_start c.args.net.now c.args.model.now.inputs)

pub returns-in_err-column-clause-fault : goal.returns-in_err-column-clause-fault
returns-in_err-column-clause-fault c =
    grind (arith, err_from_is_err_and c.from_residual.result c.from_residual.ensures.1, first_unknown_name c.args.net.now c.args.model.now.inputs c.loop-number.number c.loop-number.columns.items c.input_name.result.now _ c.loop-number.invariant c.input_name.ensures c.in_err-column.ensures.fault)

pub loop-number-preserved : goal.loop-number-preserved
loop-number-preserved c = grind (arith, columns_more)

pub returns-clause-columns : goal.returns-clause-columns
returns-clause-columns c = grind (arith, columns_all)
