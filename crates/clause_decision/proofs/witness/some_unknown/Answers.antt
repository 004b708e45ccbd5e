use Rattle.clause_decision.proofs.UnknownLemmas.{care-within}
use Rattle.clause_decision.proofs.witness.some_unknown.Goals as goal

pub ask_some-requires-clause-care : goal.ask_some-requires-clause-care
ask_some-requires-clause-care c =
    let asked = c.in-Ok.asked in
    care-within c.args.net.now c.args.care.now c.args.scope.now.gates asked.cone.formula asked.cone.rails.items asked.cone.inside asked.cone.allowed c.args.gates.now asked.sums.items c.in-Ok.ensures

pub returns-in-Ok : goal.returns-in-Ok
returns-in-Ok c = c.ask_some.ensures c.args.care.now c.args.scope.now.gates c.args.gates.now c.in-Ok.ensures c.requires.gates c.requires.within
