use Rattle.clause_decision.proofs.UnknownLemmas.{sums-rise, care-within}
use Rattle.clause_decision.proofs.unknown.first_unknown.Goals as goal

pub ask_first-requires : goal.ask_first-requires
ask_first-requires c =
    let asked = c.in-Ok.asked in
    let told = c.in-Ok.ensures in
    record {
      askable = record {
        within = told.within;
        care = care-within c.args.net.now c.args.care.now c.args.scope.now.gates asked.cone.formula asked.cone.rails.items asked.cone.inside asked.cone.allowed c.args.gates.now asked.sums.items told;
        rising = sums-rise c.args.net.now c.args.care.now c.args.scope.now.gates asked.cone.formula asked.cone.rails.items asked.cone.inside asked.cone.allowed c.args.gates.now asked.sums.items told;
      };
    }

pub returns-in-Ok : goal.returns-in-Ok
returns-in-Ok c = c.ask_first.ensures c.args.net.now c.args.care.now c.args.scope.now.gates c.args.gates.now c.in-Ok.ensures c.requires.gates c.requires.within
