use Rattle.std.proofs.Common.{rules, arith}
use Rattle.clause_decision.specs.Sweepings.{SaysOpen}
use Rattle.clause_decision.proofs.SweepingLemmas.{swept-grows, tells-open}
use Rattle.clause_decision.proofs.sweeping.ask_open.Goals as goal

pub returns-clause-asked : goal.returns-clause-asked
returns-clause-asked c net care scope loops gates k proper scope_is marked known wires swept =
    let s = c.args.swept.now in
    let new = c.add_open.new.formula in
    let literal = c.in_ok-literal.literal in
    let opened : SaysOpen s.cone.formula new s.copies.items c.args.places.now literal = search rules in
    grind (arith, swept-grows net care scope.gates loops gates s k new swept opened.grows opened.complete, tells-open net care scope.gates loops gates c.args.places.now new s.cone.rails.items s.copies.items s.cone.inside s.cone.allowed literal k proper scope_is.closed scope_is.width marked known)
