use Rattle.std.proofs.lemmas.Result.{err_from_is_err_and}
use Rattle.parsed_files.proofs.CareLemmas.{part_bad}
use Rattle.parsed_files.proofs.ErrorLemmas.{or_more, walk_says}
use Rattle.parsed_files.proofs.care_files.flatten_part.Goals as goal

pub returns-in_err-flatten-clause-bad : goal.returns-in_err-flatten-clause-bad
returns-in_err-flatten-clause-bad c =
    let q = err_from_is_err_and c.from_residual-in_err-flatten.result c.from_residual-in_err-flatten.ensures.1 in
    rw q.1 (walk_says _ c.in_err-flatten.field-0.0 _ q.2
    (or_more (part_bad c.args.models.now.list c.args.part.now c.in_ok-name.name _ _ c.in_ok-name.ensures c.find.ensures c.if-is_none.ensures) c.in_err-flatten.ensures.fault))
