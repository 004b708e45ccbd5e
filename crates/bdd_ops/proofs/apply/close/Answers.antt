use Rattle.std.proofs.Common.{Result, Err, Ok, sym, ap}
use Rattle.bdd_store.specs.declared.node.Node.{Node}
use Rattle.bdd_store.specs.declared.fault.StoreFault.{StoreFault}
use Rattle.bdd_ops.proofs.ApplyLemmas.{low_below, high_below, IsAnswer-made, NewAreParts-close, IsRefusedPart-close, AreNodesOf-kept}
use Rattle.bdd_ops.proofs.ComputedLemmas.{AreComputed-kept}
use Rattle.bdd_ops.proofs.apply.close.Goals as goal

pub join-requires-clause-above_low : goal.join-requires-clause-above_low
join-requires-clause-above_low c = low_below c.args.operation c.args.store.now c.args.answered c.requires.answers

pub join-requires-clause-above_high : goal.join-requires-clause-above_high
join-requires-clause-above_high c = high_below c.args.operation c.args.store.now c.args.answered c.requires.answers

pub returns-in_err-n-clause-full : goal.returns-in_err-n-clause-full
returns-in_err-n-clause-full c is_full =
    let refused = ap {A = StoreFault} Err (sym (rw is_full at c.from_residual.ensures.1)) in
    IsRefusedPart-close c.args.operation c.args.store.now c.args.answered c.requires.answers c.join.new.store c.in_err-n.ensures.err (c.in_err-n.ensures.full refused).1 (c.in_err-n.ensures.new_function refused)

pub returns-clause-parts : goal.returns-clause-parts
returns-clause-parts c =
    let made : Result Node StoreFault = Ok c.in_ok-n.n in
    NewAreParts-close c.args.operation c.args.store.now c.args.answered c.requires.answers c.join.new.store made c.in_ok-n.ensures.new_node c.in_ok-n.ensures.function

pub returns-clause-answer : goal.returns-clause-answer
returns-clause-answer c = IsAnswer-made c.args.operation c.args.store.now c.args.answered c.requires.answers c.join.new.store c.join.ensures.keeps c.in_ok-n.n c.in_ok-n.ensures.node c.in_ok-n.ensures.function c.in_ok-n.ensures.top

pub returns-clause-computed : goal.returns-clause-computed
returns-clause-computed c =
    let answer = IsAnswer-made c.args.operation c.args.store.now c.args.answered c.requires.answers c.join.new.store c.join.ensures.keeps c.in_ok-n.n c.in_ok-n.ensures.node c.in_ok-n.ensures.function c.in_ok-n.ensures.top in
    c.insert.ensures c.join.new.store (AreComputed-kept c.args.store.now c.join.new.store c.args.computed.now c.join.ensures.keeps c.requires.computed) (record { nodes = AreNodesOf-kept c.join.ensures.keeps c.requires.answers.2.nodes; answer = answer })
