use Rattle.std.proofs.Common.{◌≡◌, ◌∙◌, ◌<◌, Bool, List, true, length, replicate, get_or, subst, sym, ap, arith}
use Rattle.clause_decision.proofs.Common.{get_or_default, Sig, Rails, IsClosed, SaysNetlist, no_rails, rails_at}
use Rattle.clause_decision.proofs.ModelLemmas.{all-closed, all-known, output-says}
use Rattle.clause_decision.proofs.models.add_model.Goals as goal
use Rattle.clause_decision.proofs.models.add_model.Goals.{After-deref-2}

marks-are : (c : After-deref-2) → c.deref.result.now ≡ replicate (length c.args.model.now.gates) true
marks-are c = c.deref.ensures.value ∙ c.in_ok-all.ensures.marks

pub add_netlist-requires-clause-closed : goal.add_netlist-requires-clause-closed
add_netlist-requires-clause-closed c = subst (IsClosed c.args.model.now) (sym (marks-are c)) (all-closed c.args.model.now c.in_ok-all.ensures.valid)

pub add_netlist-requires-clause-never : goal.add_netlist-requires-clause-never
add_netlist-requires-clause-never c = grind (arith, marks-are c, all-known c.args.model.now c.in_ok-all.ensures.valid c.requires.free)

pub returns : goal.returns
returns g =
    let net = g.args.model.now in
    let rails : List Rails = g.in_ok-rails.rails.items in
    let none : Sig = record { 0 = 0 } in
    let outputs = g.outputs.ensures.outputs in
    let some : 0 < length net.outputs = let o = g.requires.outputs in omega (arith, o) in
    let output : Sig = get_or net.outputs 0 none in
    let own : output ≡ get_or net.outputs 0 output = get_or_default net.outputs 0 none output some in
    let said : SaysNetlist net (replicate (length net.gates) true) g.args.given.now g.args.formula.now g.add_netlist.new.formula rails =
    subst (λ (wanted : List Bool). SaysNetlist net wanted g.args.given.now g.args.formula.now g.add_netlist.new.formula rails) (marks-are (goal.at.returns g).After-deref-2) g.in_ok-rails.ensures.says in
    let inside : output.0 < length rails = let low = g.outputs.ensures.valid.outputs 0 none some in let z = said.size in omega (arith, low, z) in
    let literal : g.index.result.now ≡ rails_at rails output.0 =
    g.index.ensures ∙ ap (λ (os : List Sig). get_or rails (get_or os 0 none).0 g.index.result.now) outputs ∙ get_or_default rails output.0 g.index.result.now no_rails inside in
    output-says net g.outputs.ensures.valid g.requires.free g.args.given.now g.args.formula.now g.add_netlist.new.formula rails said
    (let w = g.requires.width in let l = g.requires.latches in omega (arith, w, l)) output some own g.index.result.now.one (ap (λ (r : Rails). r.one) literal)
