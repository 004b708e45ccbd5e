use Rattle.std.proofs.Common.{Result, Err, Ok, sym, ap}
use Rattle.dual_rail.proofs.Common.{Node}
use Rattle.bdd_store.specs.declared.fault.StoreFault.{StoreFault}
use Rattle.dual_rail.proofs.ExpansionLemmas.{IsExpansion-made, NewAreParts-choice, IsRefusedPart-choice}
use Rattle.dual_rail.proofs.MemoLemmas.{IsMemo-kept, IsMemo-insert, on_ok}
use Rattle.dual_rail.proofs.expand.join.Goals as goal

pub returns-in_err-n-clause-full : goal.returns-in_err-n-clause-full
returns-in_err-n-clause-full c rows plane are is_full =
    let refused = ap {A = StoreFault} Err (sym (rw is_full at c.from_residual.ensures.1)) in
    IsRefusedPart-choice c.requires.pin are c.make.new.self c.in_err-n.ensures.err (c.in_err-n.ensures.full.0 refused).1 (c.in_err-n.ensures.new_function refused)

pub returns-then-is_err-clause-parts : goal.returns-then-is_err-clause-parts
returns-then-is_err-clause-parts c rows plane are =
    let made : Result Node StoreFault = Ok c.in_ok-n.n in
    NewAreParts-choice c.requires.pin are c.make.new.self made c.in_ok-n.ensures.new_node c.in_ok-n.ensures.function

pub returns-clause-parts : goal.returns-clause-parts
returns-clause-parts c rows plane are =
    let made : Result Node StoreFault = Ok c.in_ok-n.n in
    NewAreParts-choice c.requires.pin are c.make.new.self made c.in_ok-n.ensures.new_node c.in_ok-n.ensures.function

pub returns-clause-node : goal.returns-clause-node
returns-clause-node c rows plane are = IsExpansion-made c.requires.pin are c.make.new.self c.make.ensures.keeps c.in_ok-n.n c.in_ok-n.ensures.node c.in_ok-n.ensures.function c.in_ok-n.ensures.top

pub returns-clause-memo : goal.returns-clause-memo
returns-clause-memo c rows plane are memo =
    let is = IsExpansion-made c.requires.pin are c.make.new.self c.make.ensures.keeps c.in_ok-n.n c.in_ok-n.ensures.node c.in_ok-n.ensures.function c.in_ok-n.ensures.top in
    IsMemo-insert rows plane c.make.new.self c.args.memo.now c.insert.new.self c.args.live c.in_ok-n.n (IsMemo-kept rows plane c.args.store.now c.make.new.self c.args.memo.now c.make.ensures.keeps memo) is (on_ok c.insert.result c.if-is_err.ensures.value c.insert.ensures.updates).0
