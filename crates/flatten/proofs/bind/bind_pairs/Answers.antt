use Rattle.std.proofs.Common.{◌<◌, length, sym, ◌∙◌, arith}
use Rattle.flatten.proofs.Binding.{bound_taken, pair_refused, pair_taken}
use Rattle.flatten.proofs.Results.{handed_on}
use Rattle.flatten.proofs.bind.bind_pairs.Goals as goal

pub bind_formal-requires : goal.bind_formal-requires
bind_formal-requires c = grind arith

pub returns-in_err-check_formal-clause-fault : goal.returns-in_err-check_formal-clause-fault
returns-in_err-check_formal-clause-fault c =
    let pairs = c.args.pairs.now in
    let i = c.loop-formal.formal-index in
    let p = c.loop-formal-item.result in
    let l : i < length pairs = omega arith in
    handed_on _ c.from_residual.result _ c.from_residual.ensures.1 c.in_err-check_formal.ensures.fault
    (λ e. sym c.loop-formal.invariant.fault ∙ pair_refused c.args.formals.now.keys c.args.scope.now.prefix c.args.scope.now.table.entries pairs c.loop-formal.table.entries i p l c.loop-formal-item.is c.loop-formal.invariant.table c.in_err-check_formal.field-0.0 e)

pub loop-formal-preserved : goal.loop-formal-preserved
loop-formal-preserved c =
    let pairs = c.args.pairs.now in
    let i = c.loop-formal.formal-index in
    let p = c.loop-formal-item.result in
    grind (arith, bound_taken c.args.scope.now.prefix c.args.scope.now.table.entries pairs i p, pair_taken c.args.formals.now.keys c.args.scope.now.prefix c.args.scope.now.table.entries pairs c.loop-formal.table.entries i p)
