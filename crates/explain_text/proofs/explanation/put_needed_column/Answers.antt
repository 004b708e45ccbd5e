use Rattle.std.proofs.Common.{[], arith}
use Rattle.explain_text.proofs.Common.{get_or_from_slice_get, signal_names}
use Rattle.explain_text.proofs.explanation.put_needed_column.Goals as goal

pub returns : goal.returns
returns g c = grind (arith, get_or_from_slice_get (signal_names c.args.net.now) c.args.column c.name_of.result.now [] c.name_of.ensures.name)
