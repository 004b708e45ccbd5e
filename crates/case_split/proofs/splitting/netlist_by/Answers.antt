use Rattle.std.proofs.Common.{rules, ◌∙◌, ap, sym, subst}
use Rattle.netlist.specs.Netlists.{with_gates, IsNetlist}
use Rattle.case_split.proofs.splitting.netlist_by.Goals as goal

pub netlist_of-requires : goal.netlist_of-requires
netlist_of-requires c =
    subst IsNetlist
    (sym (c.in_ok-parts.ensures ∙ ap (with_gates c.args.net.now c.args.gates.items) (c.in_ok-outputs.ensures.items_if_clones_equal (search rules) ∙ c.outputs.ensures.outputs)))
    c.requires
