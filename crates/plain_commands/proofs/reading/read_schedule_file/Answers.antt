use Rattle.std.proofs.Common.{◌≡◌, Ok, sym, ap, subst, ◌∙◌}
use Rattle.plain_commands.proofs.Common.{err_from_is_err_and, IsErrorOf, error_seen, stop_outcome}
use Rattle.plain_commands.specs.Plans.{Recorded}
use Rattle.parsed_files.specs.ScheduleFiles.{schedule_of}
use Rattle.parsed_files.proofs.ScheduleLemmas.{schedule_of_long}
use Rattle.plain_commands.proofs.ReadingLemmas.{error_stops, file_goes_on, none_stops}
use Rattle.plain_commands.proofs.reading.read_schedule_file.Goals as goal

pub returns-in_err-bytes-clause-bad : goal.returns-in_err-bytes-clause-bad
returns-in_err-bytes-clause-bad g c =
    let q = err_from_is_err_and c.from_residual.result c.from_residual.ensures.1 in
    rw (q.1, q.2) (none_stops Recorded (schedule_of c.args.net.now c.args.ticks) c.args.file.now _ _ (λ bytes fault is. tt)
    (schedule_of_long c.args.net.now c.args.ticks) c.in_err-bytes.ensures.bad c.read_text.ensures.counts)

pub returns-in-Ok-clause-good : goal.returns-in-Ok-clause-good
returns-in-Ok-clause-good g c =
    let is : schedule_of c.args.net.now c.args.ticks c.in_ok-bytes.bytes.items ≡ Ok c.in-Ok.found =
    ap (schedule_of c.args.net.now c.args.ticks) (sym c.deref.ensures.value) ∙ c.in-Ok.ensures.good in
    file_goes_on Recorded (schedule_of c.args.net.now c.args.ticks) c.args.file.now c.in_ok-bytes.bytes.items _ c.in-Ok.found tt
    c.in_ok-bytes.ensures.good c.read_text.ensures.counts is

pub returns-clause-bad : goal.returns-clause-bad
returns-clause-bad g c =
    let is = subst (λ bytes. IsErrorOf (schedule_of c.args.net.now c.args.ticks bytes) (error_seen c.in-Err.error)) c.deref.ensures.value c.in-Err.ensures.bad in
    error_stops Recorded (schedule_of c.args.net.now c.args.ticks) c.args.file.now c.in_ok-bytes.bytes.items _ (error_seen c.in-Err.error) (stop_outcome c.stop_at.result)
    (λ fault is. tt) c.in_ok-bytes.ensures.good c.read_text.ensures.counts is c.stop_at.ensures
