use Rattle.std.proofs.Common.{◌≡◌, Ok, sym, ap, subst, ◌∙◌}
use Rattle.plain_commands.proofs.Common.{err_from_is_err_and, IsErrorOf, error_seen, stop_outcome}
use Rattle.parsed_files.specs.CareFiles.{care_of}
use Rattle.parsed_files.proofs.CareLemmas.{care_of_long}
use Rattle.plain_commands.specs.Plans.{Care}
use Rattle.plain_commands.proofs.ReadingLemmas.{error_stops, file_goes_on, none_stops}
use Rattle.plain_commands.proofs.reading.read_care_file.Goals as goal

pub returns-in_err-bytes-clause-bad : goal.returns-in_err-bytes-clause-bad
returns-in_err-bytes-clause-bad g c =
    let q = err_from_is_err_and c.from_residual.result c.from_residual.ensures.1 in
    rw (q.1, q.2) (none_stops Care (care_of c.args.net.now) c.args.file.now _ _ (λ bytes fault is. tt) (care_of_long c.args.net.now)
    c.in_err-bytes.ensures.bad c.read_text.ensures.counts)

pub returns-in-Ok-clause-good : goal.returns-in-Ok-clause-good
returns-in-Ok-clause-good g c =
    let is : care_of c.args.net.now c.in_ok-bytes.bytes.items ≡ Ok c.in-Ok.care =
    ap (care_of c.args.net.now) (sym c.deref.ensures.value) ∙ c.in-Ok.ensures.good in
    file_goes_on Care (care_of c.args.net.now) c.args.file.now c.in_ok-bytes.bytes.items _ c.in-Ok.care tt
    c.in_ok-bytes.ensures.good c.read_text.ensures.counts is

pub returns-clause-bad : goal.returns-clause-bad
returns-clause-bad g c =
    let is = subst (λ bytes. IsErrorOf (care_of c.args.net.now bytes) (error_seen c.in-Err.error)) c.deref.ensures.value c.in-Err.ensures.bad in
    error_stops Care (care_of c.args.net.now) c.args.file.now c.in_ok-bytes.bytes.items _ (error_seen c.in-Err.error) (stop_outcome c.stop_at.result)
    (λ fault is. tt) c.in_ok-bytes.ensures.good c.read_text.ensures.counts is c.stop_at.ensures
