use Rattle.std.proofs.Common.{arith}
use Rattle.std.proofs.lemmas.List.Elements.{All-same}
use Rattle.clause_decision.proofs.SweepingLemmas.{open-within, says-open}
use Rattle.clause_decision.proofs.sweeping.add_open.Goals as goal

pub add_any-requires-clause-literals : goal.add_any-requires-clause-literals
add_any-requires-clause-literals c = grind (arith, All-same, open-within c.args.formula.now.variables c.args.copies.now c.args.places.now c.requires.copies c.requires.places)

pub returns : goal.returns
returns c = grind (arith, says-open c.args.formula.now c.add_any.new.formula c.args.copies.now c.args.places.now c.deref.result.now c.in_ok-sums.sums.items c.index.result.now c.index.result.now c.in_ok-sums.ensures.says)
