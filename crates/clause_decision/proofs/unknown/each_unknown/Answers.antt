use Rattle.std.proofs.Common.{◌≡◌, ◌∙◌, List, ap, subst, sym, arith}
use Rattle.std.proofs.lemmas.Option.{IfSome_then}
use Rattle.clause_decision.proofs.Common.{IfOk-weaker, Rails, IsWithin, unknown_literals}
use Rattle.clause_decision.proofs.UnknownLemmas.{each-told, unknown_literals-within}
use Rattle.clause_decision.proofs.unknown.each_unknown.Goals as goal
use Rattle.clause_decision.proofs.unknown.each_unknown.Goals.{After-deref-2}

literals_are : (c : After-deref-2) → c.deref-2.result.now ≡ unknown_literals c.args.net.now c.in-Ok.cone.rails.items c.args.gates.now
literals_are c = c.deref-2.ensures.value ∙ c.in_ok-literals.ensures ∙ ap (λ (rails : List Rails). unknown_literals c.args.net.now rails c.args.gates.now) c.deref.ensures.value

pub ask_each-requires-clause-care : goal.ask_each-requires-clause-care
ask_each-requires-clause-care c = grind arith

pub ask_each-requires-clause-literals : goal.ask_each-requires-clause-literals
ask_each-requires-clause-literals c =
    let cone = c.in-Ok.cone in
    subst (IsWithin cone.formula.variables) (sym (literals_are c)) (unknown_literals-within c.args.net.now cone.rails.items cone.formula.variables c.args.gates.now c.in-Ok.ensures.size c.in-Ok.ensures.within c.requires.gates)

pub returns : goal.returns
returns g =
    let c : After-deref-2 = (goal.at.returns g).After-deref-2 in
    let cone = c.in-Ok.cone in
    IfOk-weaker g.ask_each.result _ _
    (λ told is. IfSome_then told is (λ found each.
    each-told c.args.net.now c.args.care.now c.args.scope.now.gates cone.formula cone.rails.items cone.inside cone.allowed c.in-Ok.ensures c.args.gates.now c.deref-2.result.now c.requires.gates c.requires.within (literals_are c) found.items each))
    g.ask_each.ensures
