use Rattle.std.proofs.Common.{Ok, arith}
use Rattle.std.proofs.lemmas.Result.{err_from_is_err_and}
use Rattle.care_sets.specs.declared.fault.CareFault.TheVariants.{Memory}
use Rattle.parsed_files.specs.CareFiles.{care_models}
use Rattle.parsed_files.specs.Seen.{error_seen}
use Rattle.parsed_files.proofs.CareLemmas.{bind_error, bound_models}
use Rattle.parsed_files.proofs.ErrorLemmas.{care_says}
use Rattle.parsed_files.proofs.care_files.care_of_models.Goals as goal

pub returns-in_err-bind-clause-bad : goal.returns-in_err-bind-clause-bad
returns-in_err-bind-clause-bad c =
    let q = err_from_is_err_and c.from_residual-in_err-bind.result c.from_residual-in_err-bind.ensures.1 in
    rw q.1 (care_says (care_models c.args.net.now (Ok c.args.models.now.list)) c.in_err-bind.field-0.0 (error_seen q.0) q.2
    (bind_error c.args.net.now c.args.models.now.list c.in_ok-assume.assume c.in_ok-invariant.invariant c.in_err-bind.field-0.0 Memory
    c.in_ok-assume.ensures.good c.in_ok-invariant.ensures.good c.in_err-bind.ensures.fault))

pub returns-clause-good : goal.returns-clause-good
returns-clause-good c = grind (arith, bound_models c.args.net.now c.args.models.now.list c.in_ok-assume.assume c.in_ok-invariant.invariant c.in_ok-bind.field-0 c.in_ok-assume.ensures.good c.in_ok-invariant.ensures.good c.in_ok-bind.ensures.bound)
