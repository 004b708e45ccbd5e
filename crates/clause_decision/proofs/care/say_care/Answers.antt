use Rattle.std.proofs.Common.{◌≡◌, ◌-◌, length, take, drop, List, arith}
use Rattle.clause_decision.proofs.Common.{take_all, Rails}
use Rattle.std.proofs.lemmas.List.{length-drop}
use Rattle.clause_decision.proofs.FormulaLemmas.{care-formula}
use Rattle.clause_decision.proofs.ModelLemmas.{assume-reads, invariant-reads}
use Rattle.clause_decision.proofs.care.say_care.Goals as goal
use Rattle.clause_decision.proofs.care.say_care.Goals.{After-add_invariant-arg-2-1}

-- the latches' rails
abbrev latches : After-add_invariant-arg-2-1 → List Rails
latches c = take (length c.args.columns.now - c.inputs-first.result) (drop c.inputs-first.result c.args.columns.now)

latches-are : (c : After-add_invariant-arg-2-1) → latches c ≡ drop (length c.args.net.now.inputs) c.args.columns.now
latches-are c = grind (arith, take_all (length c.args.columns.now - c.inputs-first.result) (drop c.inputs-first.result c.args.columns.now), length-drop c.inputs-first.result c.args.columns.now)

pub add_invariant-requires-clause-reads : goal.add_invariant-requires-clause-reads
add_invariant-requires-clause-reads c = grind (arith, invariant-reads c.args.net.now c.args.care.now (length (latches c)) c.requires.care, latches-are c, length-drop (length c.args.net.now.inputs) c.args.columns.now)

pub add_assumption-requires-clause-reads : goal.add_assumption-requires-clause-reads
add_assumption-requires-clause-reads c = assume-reads c.args.net.now c.args.care.now (length c.args.columns.now) c.requires.care c.requires.over.size

pub returns : goal.returns
returns g =
    let c = (goal.at.returns g).After-add_invariant-arg-2-1 in
    grind (arith, care-formula g.args.net.now g.args.care.now g.args.formula.now g.add_invariant.new.formula g.add_assumption.new.formula g.args.columns.now g.in_ok-inside.inside g.in_ok-allowed.allowed g.requires.over, latches-are c)
