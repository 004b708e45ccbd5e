use Rattle.std.proofs.Common.{arith}
use Rattle.components.specs.Search.{state_of}
use Rattle.components.proofs.ListLemmas.{no_last}
use Rattle.components.proofs.ExploreLemmas.{opened_searching, explored}
use Rattle.components.proofs.search.explore.Goals as goal

pub loop-group-init : goal.loop-group-init
loop-group-init c = grind (arith, opened_searching c.args.graph.now (state_of c.args.search.now) c.args.root c.requires.rests c.requires.root c.requires.new)

pub returns : goal.returns
returns c = grind (arith, explored c.args.graph.now (state_of c.args.search.now) c.args.root c.requires.rests c.requires.root c.requires.new (state_of c.loop-group.search), no_last c.loop-group.search.groups.items)
