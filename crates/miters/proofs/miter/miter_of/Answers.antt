use Rattle.std.proofs.Common.{◌≡◌, ◌++◌, List, [], length, ap, subst, ◌∙◌, arith}
use Rattle.miters.proofs.Common.{IfOk, Gate, Pair, joined_pairs, moved_gates, miter_gates, with_gates}
use Rattle.miters.proofs.ValidLemmas.{miter_valid}
use Rattle.miters.proofs.miter.miter_of.Goals as goal

pub netlist_with-requires : goal.netlist_with-requires
netlist_with-requires c =
    let a = c.args.a.now in
    let b = c.args.b.now in
    grind (arith, miter_valid a b c.laws.ensures.valid c.laws-2.ensures.valid c.requires.matched)

pub returns : goal.returns
returns c =
    let a = c.args.a.now in
    let b = c.args.b.now in
    let same : c.in_ok-gates.gates.items ≡ a.gates ++ (moved_gates a b ++ miter_gates a (length b.gates) (joined_pairs a b)) =
    c.in_ok-gates.ensures ∙ ap (λ (pairs : List Pair). a.gates ++ (moved_gates a b ++ miter_gates a (length b.gates) pairs)) c.requires.pairs in
    subst (λ (gates : List Gate). IfOk c.netlist_with.result (λ net. net ≡ with_gates c.args.a.now gates [])) same c.netlist_with.ensures
