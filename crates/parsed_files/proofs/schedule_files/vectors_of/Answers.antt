use Rattle.std.proofs.Common.{ap, ◌∙◌, arith}
use Rattle.parsed_files.specs.ScheduleFiles.{of_sched}
use Rattle.parsed_files.proofs.ScheduleLemmas.{sched_says, vectors_of_short}
use Rattle.parsed_files.proofs.schedule_files.vectors_of.Goals as goal

pub returns-in-Ok-clause-good : goal.returns-in-Ok-clause-good
returns-in-Ok-clause-good c = grind arith

pub returns-in-Err-clause-bad : goal.returns-in-Err-clause-bad
returns-in-Err-clause-bad c =
    let read = rw c.inputs.ensures.inputs at c.in-Err.ensures.vectors in
    sched_says c.args.net.now _ c.in-Err.fault _ c.sched_error.ensures
    (λ differs. vectors_of_short c.args.net.now c.args.unknowns c.args.bytes.now c.in_ok-check_length.ensures.short ∙ ap (of_sched c.args.net.now) (read differs))
