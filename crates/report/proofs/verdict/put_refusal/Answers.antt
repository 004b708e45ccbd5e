use Rattle.std.proofs.Common.{[], arith}
use Rattle.report.proofs.Common.{get_or_from_slice_get, signal_names}
use Rattle.report.proofs.verdict.put_refusal.Goals as goal

pub returns-in-EmptyCare : goal.returns-in-EmptyCare
returns-in-EmptyCare g c = rw c.in-EmptyCare.is c.write_whole.ensures

pub returns-in-Undetermined : goal.returns-in-Undetermined
returns-in-Undetermined g c = grind (arith, get_or_from_slice_get (signal_names c.args.net.now) c.in-Undetermined.wire.0 c.name_of-wire.result.now [] c.name_of-wire.ensures.name)
