use Rattle.std.proofs.Common.{arith}
use Rattle.components.specs.Search.{state_of}
use Rattle.components.proofs.StepLemmas.{last_begins, taken_following, closed_advances, path_marked}
use Rattle.components.proofs.search.step.Goals as goal

pub follow-requires-clause-following : goal.follow-requires-clause-following
follow-requires-clause-following c = grind (arith, taken_following c.args.graph.now (state_of c.args.search.now) c.next_edge.new.waiting.items c.args.group c.in-Some.target c.requires.searching c.requires.last c.in-Some.ensures.some)

pub close-requires-clause-nodes : goal.close-requires-clause-nodes
close-requires-clause-nodes c = grind (arith, last_begins c.args.graph.now (state_of c.args.search.now) c.requires.searching.sound c.args.group c.requires.last)

pub close-requires-clause-within : goal.close-requires-clause-within
close-requires-clause-within c = path_marked c.args.graph.now (state_of c.args.search.now) c.requires.searching.sound

pub returns-in-None-clause-advances : goal.returns-in-None-clause-advances
returns-in-None-clause-advances c =
    (closed_advances c.args.graph.now (state_of c.args.search.now) c.next_edge.new.waiting.items c.args.group (state_of c.close.new.search) c.requires.searching c.requires.last c.in-None.ensures.none c.close.ensures).0

pub returns-in-None-clause-less : goal.returns-in-None-clause-less
returns-in-None-clause-less c =
    (closed_advances c.args.graph.now (state_of c.args.search.now) c.next_edge.new.waiting.items c.args.group (state_of c.close.new.search) c.requires.searching c.requires.last c.in-None.ensures.none c.close.ensures).1
