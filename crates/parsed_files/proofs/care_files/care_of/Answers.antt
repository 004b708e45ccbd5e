use Rattle.std.proofs.Common.{ap, ◌∙◌}
use Rattle.std.proofs.lemmas.Result.{err_from_is_err_and}
use Rattle.parsed_files.specs.CareFiles.{care_models}
use Rattle.parsed_files.proofs.CareLemmas.{care_of_short}
use Rattle.parsed_files.proofs.ErrorLemmas.{text_says}
use Rattle.parsed_files.proofs.care_files.care_of.Goals as goal

pub returns-in_err-models-clause-bad : goal.returns-in_err-models-clause-bad
returns-in_err-models-clause-bad c =
    let q = err_from_is_err_and c.from_residual-in_err-models.result c.from_residual-in_err-models.ensures.1 in
    rw q.1 (text_says _ c.in_err-models.field-0.0 _ q.2
    (λ differs. care_of_short c.args.net.now c.args.bytes.now c.in_ok-check_length.ensures.short ∙ ap (care_models c.args.net.now) (c.in_err-models.ensures.models differs)))
