use Rattle.std.proofs.Common.{◌≡◌, Ok, arith}
use Rattle.sched_text.specs.Schedules.{schedule_read}
use Rattle.sched_text.proofs.ReadingLemmas.{fits_read}
use Rattle.sched_text.proofs.text.read_schedule.Goals as goal

pub returns-clause-fits : goal.returns-clause-fits
returns-clause-fits c =
    let read : schedule_read c.args.bytes.now c.args.net.now c.args.ticks ≡ Ok c.in_ok-end.field-0 = grind (arith, c.in_ok-read_lines.ensures.read, c.in_ok-end.ensures) in
    fits_read c.args.net.now c.args.ticks c.args.bytes.now c.in_ok-end.field-0 read
