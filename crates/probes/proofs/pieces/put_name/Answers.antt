use Rattle.std.proofs.Common.{[], arith}
use Rattle.std.proofs.lemmas.Option.{get_or_from_slice_get}
use Rattle.netlist.specs.Netlists.{signal_names}
use Rattle.probes.proofs.pieces.put_name.Goals as goal

pub returns : goal.returns
returns c = grind (arith, get_or_from_slice_get (signal_names c.args.net.now) c.args.s.0 c.name_of.result.now [] c.name_of.ensures.name)
