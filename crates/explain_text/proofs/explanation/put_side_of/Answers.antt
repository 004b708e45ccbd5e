use Rattle.std.proofs.Common.{[], arith}
use Rattle.explain_text.proofs.Common.{get_or_from_slice_get, signal_names}
use Rattle.explain_text.proofs.explanation.put_side_of.Goals as goal

pub returns : goal.returns
returns g c = grind (arith, get_or_from_slice_get (signal_names c.args.net.now) c.args.signal c.name_of.result.now [] c.name_of.ensures.name)
