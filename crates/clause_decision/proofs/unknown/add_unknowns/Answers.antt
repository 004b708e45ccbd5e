use Rattle.std.proofs.Common.{◌≡◌, ℕ, List, ap, subst, ◌∙◌, arith}
use Rattle.clause_decision.proofs.Common.{SaysAny, unknown_literals}
use Rattle.clause_decision.proofs.UnknownLemmas.{unknown_literals-within, unknowns-told}
use Rattle.clause_decision.proofs.unknown.add_unknowns.Goals as goal

pub add_any-requires-clause-literals : goal.add_any-requires-clause-literals
add_any-requires-clause-literals c =
    let net = c.args.net.now in
    let cone = c.args.cone in
    let gates = c.args.gates.now in
    grind (arith, unknown_literals-within net cone.rails.items cone.formula.variables gates c.requires.width c.requires.within c.requires.gates)

pub returns : goal.returns
returns c = λ care marks cone.
    let net = c.args.net.now in
    let given = c.args.cone in
    let gates = c.args.gates.now in
    let same : c.deref-2.result.now ≡ unknown_literals net given.rails.items gates =
    c.deref-2.ensures.value ∙ c.in_ok-literals.ensures ∙ ap (λ rails. unknown_literals net rails gates) c.deref.ensures.value in
    unknowns-told net care marks given.formula c.add_any.new.formula given.rails.items given.inside given.allowed gates c.in_ok-sums.sums.items cone
    (subst (λ (literals : List ℕ). SaysAny given.formula c.add_any.new.formula literals c.in_ok-sums.sums.items) same c.in_ok-sums.ensures.says)
