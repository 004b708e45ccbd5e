use Rattle.std.proofs.Common.{ap, sym, ◌∙◌, position}
use Rattle.std.specs.Str.{bytes_eq}
use Rattle.netlist.specs.Netlists.{signal_names}
use Rattle.netlist.proofs.Repeats.{place_of_name}
use Rattle.netlist.proofs.netlist.Netlist.find.Goals as goal

pub returns-clause-found : goal.returns-clause-found
returns-clause-found c =
    place_of_name _ _ _
    (ap (position (bytes_eq c.args.name.now)) (sym (c.self.invariant.1 ∙ ap signal_names c.self.view_is))
    ∙ sym c.in_ok-number.ensures.index)
