use Rattle.std.proofs.Common.{[], sym}
use Rattle.std.proofs.lemmas.Option.{get_or_from_slice_get}
use Rattle.netlist.specs.Netlists.{signal_names}
use Rattle.explain_text.proofs.lines.column_name.Goals as goal

pub returns : goal.returns
returns c = sym (get_or_from_slice_get (signal_names c.args.net.now) c.args.column c.name_of.result.now [] c.name_of.ensures.name)
