use Rattle.std.proofs.Common.{List, Bool, subst, arith}
use Rattle.clause_decision.proofs.Common.{IfOk-weaker, SaysNetlist, Rails}
use Rattle.clause_decision.proofs.ConeLemmas.{closed-by_pins, cone-of}
use Rattle.clause_decision.proofs.cones.add_gates.Goals as goal

pub add_netlist-requires-clause-closed : goal.add_netlist-requires-clause-closed
add_netlist-requires-clause-closed c = grind (arith, closed-by_pins c.args.net.now c.args.scope.now.gates c.laws.ensures.valid c.requires.scope.closed)

pub returns : goal.returns
returns c =
    let net = c.args.net.now in
    let said = c.args.said.now in
    IfOk-weaker c.add_netlist.result _ _ (λ rails says_it.
    cone-of net c.args.care.now c.args.scope.now.gates said.formula c.add_netlist.new.formula said.columns.items rails.items said.inside said.allowed
    c.requires.said (closed-by_pins net c.args.scope.now.gates c.laws.ensures.valid c.requires.scope.closed)
    (subst (λ (marks : List Bool). SaysNetlist net marks said.columns.items said.formula c.add_netlist.new.formula rails.items) c.items.ensures
    (subst (λ (given : List Rails). SaysNetlist net c.items.result.now given said.formula c.add_netlist.new.formula rails.items) c.deref.ensures.value says_it)))
    c.add_netlist.ensures.says
