use Rattle.std.proofs.Common.{Err, reverse, sym, ap, subst, ◌∙◌, arith}
use Rattle.bdd_store.specs.declared.fault.StoreFault.{StoreFault}
use Rattle.bdd_store.proofs.GrowthLemmas.{KeepsNodes-chain}
use Rattle.bdd_ops.specs.Turns.{IsTurn}
use Rattle.bdd_ops.proofs.ApplyLemmas.{AreNodesOf-kept}
use Rattle.bdd_ops.proofs.ChainLemmas.{IsChain-nodes, asked-turn, behind-kept, NewAreParts-taken, IsRefusedPart-taken}
use Rattle.bdd_ops.proofs.apply.apply.Goals as goal

pub ask-requires-clause-nodes : goal.ask-requires-clause-nodes
ask-requires-clause-nodes c = grind (arith, IsChain-nodes, AreNodesOf-kept, asked-turn)

pub returns-in_err-turn-in-Answer-clause-parts : goal.returns-in_err-turn-in-Answer-clause-parts
returns-in_err-turn-in-Answer-clause-parts c =
    grind (arith, NewAreParts-taken c.args.operation c.loop-turn.store c.resume.new.store c.args.root c.loop-turn.waiting.items c.pop.new.self.items c.in-Some.question c.in-Answer.n c.resume.ensures.keeps c.in-Some.ensures.items)

pub returns-in_err-turn-in-Answer-clause-full : goal.returns-in_err-turn-in-Answer-clause-full
returns-in_err-turn-in-Answer-clause-full c is_full =
    let turn = subst (IsTurn c.args.operation c.loop-turn.store c.args.root (reverse c.loop-turn.waiting.items)) c.in-Answer.is c.loop-turn.invariant.turn in
    let refused = c.in_err-turn-in-Answer.was ∙ ap {A = StoreFault} Err (sym (rw is_full at c.from_residual-in_err-turn-in-Answer.ensures.1)) in
    IsRefusedPart-taken c.args.operation c.loop-turn.store c.resume.new.store c.args.root c.loop-turn.waiting.items c.pop.new.self.items c.in-Some.question c.in-Answer.n c.resume.ensures.keeps c.in-Some.ensures.items turn c.args.store.now c.laws.ensures c.requires.nodes c.loop-turn.invariant.keeps (c.resume.ensures.full refused)

pub loop-turn-preserved : goal.loop-turn-preserved
loop-turn-preserved c =
    let turn = subst (IsTurn c.args.operation c.loop-turn.store c.args.root (reverse c.loop-turn.waiting.items)) c.in-Answer.is c.loop-turn.invariant.turn in
    let behind = behind-kept c.args.operation c.loop-turn.store c.resume.new.store c.args.root c.loop-turn.waiting.items c.pop.new.self.items c.in-Some.question c.in-Answer.n c.resume.ensures.keeps c.in-Some.ensures.items turn in
    record {
      keeps = KeepsNodes-chain c.loop-turn.invariant.keeps c.resume.ensures.keeps;
      answers = c.resume.ensures.answers ∙ c.loop-turn.invariant.answers;
      computed = c.resume.ensures.computed;
      parts = NewAreParts-taken c.args.operation c.loop-turn.store c.resume.new.store c.args.root c.loop-turn.waiting.items c.pop.new.self.items c.in-Some.question c.in-Answer.n c.resume.ensures.keeps c.in-Some.ensures.items turn c.args.store.now c.laws.ensures c.requires.nodes c.loop-turn.invariant.keeps c.loop-turn.invariant.parts c.resume.ensures.parts;
      turn = c.in_ok-turn-in-Answer.ensures.ok c.args.root behind;
    }
