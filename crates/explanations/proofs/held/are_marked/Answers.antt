use Rattle.std.proofs.Common.{◌≡◌, ℕ, true, refl, subst, arith}
use Rattle.std.proofs.lemmas.List.{get_or_default}
use Rattle.netlist.specs.Netlists.{gate_sig, is_marked}
use Rattle.explanations.proofs.held.are_marked.Goals as goal

pub returns : goal.returns
returns c =
    let gates = c.args.gates.now in
    let behind = c.loop-gate-test.false in
    (λ e k d l. subst (λ (g : ℕ). is_marked c.args.marks.now (gate_sig c.args.net.now g).0 ≡ true) (get_or_default gates k 0 d l) (c.loop-gate.invariant k (omega arith)), λ all. refl)
