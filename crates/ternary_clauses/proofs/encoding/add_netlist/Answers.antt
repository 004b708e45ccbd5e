use Rattle.std.proofs.Common.{arith}
use Rattle.ternary_clauses.proofs.BindLemmas.{netlist-says}
use Rattle.ternary_clauses.proofs.encoding.add_netlist.Goals as goal

pub returns-clause-says : goal.returns-clause-says
returns-clause-says c =
    let net = c.args.net.now in
    let wires = c.add_wires.new.formula in
    let rails = c.add_wires.new.rails.items in
    grind (arith, netlist-says net c.args.wanted.now c.args.never.now c.args.given.now rails c.args.formula.now wires c.bind_gates.new.formula c.requires.width c.requires.given)
