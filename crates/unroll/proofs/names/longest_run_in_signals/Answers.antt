use Rattle.std.proofs.Common.{arith}
use Rattle.unroll.proofs.Common.{get_or_from_slice_get, slice_get_within, signal_names}
use Rattle.cyc_base.proofs.TildeLemmas.{max_is, longest_more}
use Rattle.unroll.proofs.names.longest_run_in_signals.Goals as goal

pub loop-number-preserved : goal.loop-number-preserved
loop-number-preserved c =
    let names = signal_names c.args.net.now in
    let i = c.loop-number.number in
    let name = c.name_of.result.now in
    let got = c.name_of.ensures.name in
    grind (arith, max_is c.loop-number.longest c.longest_run.result, longest_more names i name (slice_get_within names i name got), slice_get_within names i name got, get_or_from_slice_get names i name name got)
