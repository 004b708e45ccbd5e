use Rattle.rewriting.proofs.GraphLemmas.{graphs_show_the_same}
use Rattle.rewriting.proofs.laws.graphs_keep_behaviour.Goals as goal

pub returns : goal.returns
returns c = graphs_show_the_same
