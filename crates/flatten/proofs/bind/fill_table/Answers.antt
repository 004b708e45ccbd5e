use Rattle.std.proofs.Common.{◌≡◌, ◌++◌, ◌∙◌, option_map, arith}
use Rattle.std.proofs.lemmas.Result.{on_ok_weaker}
use Rattle.flatten.proofs.Common.{model_at, pairs_fault}
use Rattle.flatten.specs.declared.fault.FlatFault.TheVariants.{OpenInput}
use Rattle.flatten.specs.Instances.{first_open}
use Rattle.flatten.proofs.Binding.{pairs_fault_at, pairs_fault_open}
use Rattle.flatten.proofs.Results.{handed_on, fault_of}
use Rattle.flatten.proofs.bind.fill_table.Goals as goal
use Rattle.flatten.proofs.bind.fill_table.Goals.{After-model}

-- once the pairs fit, the first open formal is the fault
open_fault : (c : After-model) → pairs_fault (model_at c.args.hierarchy.now.models c.args.place) c.args.pairs.now ≡ option_map OpenInput (first_open c.bind_pairs.new.table.entries (c.model.result.now.inputs ++ c.model.result.now.clocks))
open_fault c =
    let model = model_at c.args.hierarchy.now.models c.args.place in
    grind (arith, pairs_fault_open model c.formals.result.now.keys c.args.scope.now.prefix c.args.scope.now.table.entries c.args.pairs.now c.formals.ensures c.in_ok-bind_pairs.ensures.fits)

pub returns-in_err-bind_pairs-clause-fault : goal.returns-in_err-bind_pairs-clause-fault
returns-in_err-bind_pairs-clause-fault c =
    handed_on _ c.from_residual.result _ c.from_residual.ensures.1 c.in_err-bind_pairs.ensures.fault
    (pairs_fault_at (model_at c.args.hierarchy.now.models c.args.place) c.formals.result.now.keys c.args.pairs.now c.in_err-bind_pairs.field-0.0 c.formals.ensures)

pub returns-clause-fits : goal.returns-clause-fits
returns-clause-fits c = on_ok_weaker c.check_open.result (λ e. open_fault (goal.at.returns-clause-fits c).After-model ∙ e) c.check_open.ensures.full

pub returns-clause-fault : goal.returns-clause-fault
returns-clause-fault c = fault_of _ _ c.check_open.result (λ fault e. open_fault (goal.at.returns-clause-fault c).After-model ∙ e) c.check_open.ensures.fault
