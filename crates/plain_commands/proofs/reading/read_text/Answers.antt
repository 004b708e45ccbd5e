use Rattle.std.proofs.Common.{refl}
use Rattle.plain_commands.proofs.ReadingLemmas.{gave_too_long}
use Rattle.plain_commands.proofs.reading.read_text.Goals as goal

pub returns-in-Err-TooLong-clause-bad : goal.returns-in-Err-TooLong-clause-bad
returns-in-Err-TooLong-clause-bad g c =
    let ensured = rw c.in-Err-TooLong.field-0-is at c.in-Err-TooLong.ensures.too_long in
    gave_too_long _ _ _ _ (ensured refl) c.too_long.ensures c.stop_at.ensures
