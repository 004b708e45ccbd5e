use Rattle.plain_commands.proofs.Common.{err_from_is_err_and, netlist_of, error_seen, stop_outcome}
use Rattle.parsed_files.proofs.NetlistLemmas.{netlist_of_long}
use Rattle.plain_commands.specs.Plans.{Netlist}
use Rattle.plain_commands.proofs.ReadingLemmas.{error_stops, file_goes_on, none_stops, sound_fault, sound_netlist}
use Rattle.plain_commands.proofs.reading.read_netlist.Goals as goal

pub returns-in_err-bytes-clause-bad : goal.returns-in_err-bytes-clause-bad
returns-in_err-bytes-clause-bad g c =
    let q = err_from_is_err_and c.from_residual.result c.from_residual.ensures.1 in
    rw (q.1, q.2) (none_stops Netlist netlist_of c.args.file.now _ _ sound_fault netlist_of_long c.in_err-bytes.ensures.bad c.read_text.ensures.counts)

pub returns-in-Ok-clause-good : goal.returns-in-Ok-clause-good
returns-in-Ok-clause-good g c =
    file_goes_on Netlist netlist_of c.args.file.now c.in_ok-bytes.bytes.items _ c.in-Ok.net (sound_netlist c.in_ok-bytes.bytes.items c.in-Ok.net c.in-Ok.ensures.good c.in-Ok.ensures.valid)
    c.in_ok-bytes.ensures.good c.read_text.ensures.counts c.in-Ok.ensures.good

pub returns-in-Err-clause-bad : goal.returns-in-Err-clause-bad
returns-in-Err-clause-bad g c =
    error_stops Netlist netlist_of c.args.file.now c.in_ok-bytes.bytes.items _ (error_seen c.in-Err.error) (stop_outcome c.stop_at.result)
    (sound_fault c.in_ok-bytes.bytes.items) c.in_ok-bytes.ensures.good c.read_text.ensures.counts c.in-Err.ensures.bad c.stop_at.ensures
