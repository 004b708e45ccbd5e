use Rattle.std.proofs.Common.{List, sym, subst}
use Rattle.ternary_clauses.proofs.Common.{All, AreWithin, Rails}
use Rattle.ternary_clauses.specs.Lifts.{SaysGate}
use Rattle.ternary_clauses.proofs.OrderLemmas.{says_gate}
use Rattle.ternary_clauses.proofs.binding.bind_in_order.Goals as goal

pub add_gate-requires-clause-rails : goal.add_gate-requires-clause-rails
add_gate-requires-clause-rails c =
    subst (All (AreWithin c.args.formula.now.variables)) (sym c.deref.ensures.value) (c.in_ok-gate.ensures.within c.args.formula.now.variables c.requires.rails)

pub returns-in-Ok-clause-says : goal.returns-in-Ok-clause-says
returns-in-Ok-clause-says c true_is =
    says_gate c.args.formula.now c.add_gate.new.formula c.args.cover.now c.args.pins.now c.in_ok-gate.gate.cover c.in_ok-gate.gate.pins.items c.args.out c.in_ok-gate.ensures
    (subst (λ (ps : List Rails). SaysGate c.args.formula.now c.add_gate.new.formula ps c.args.out c.in_ok-gate.gate.cover) c.deref.ensures.value (c.in_ok-add_gate-in-Ok.ensures.says c.in_ok-gate.gate.cover c.in-Ok.ensures.diagram))
