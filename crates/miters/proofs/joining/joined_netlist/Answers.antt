use Rattle.std.proofs.Common.{◌≡◌, ◌++◌, List, [], ap, subst, sym, ◌∙◌, arith}
use Rattle.miters.proofs.Common.{IfOk, Gate, moved_gates, with_gates, append-nil}
use Rattle.miters.proofs.ValidLemmas.{joined_valid}
use Rattle.miters.proofs.joining.joined_netlist.Goals as goal

pub netlist_with-requires : goal.netlist_with-requires
netlist_with-requires c =
    let a = c.args.a.now in
    let b = c.args.b.now in
    grind (arith, append-nil (moved_gates a b), joined_valid a b c.laws.ensures.valid c.laws-2.ensures.valid c.requires.matched)

pub returns : goal.returns
returns c =
    let a = c.args.a.now in
    let b = c.args.b.now in
    let same : c.in_ok-gates.gates.items ≡ a.gates ++ (moved_gates a b ++ []) = c.in_ok-gates.ensures ∙ ap (λ gates. a.gates ++ gates) (sym (append-nil (moved_gates a b))) in
    subst (λ (gates : List Gate). IfOk c.netlist_with.result (λ net. net ≡ with_gates c.args.a.now gates [])) same c.netlist_with.ensures
