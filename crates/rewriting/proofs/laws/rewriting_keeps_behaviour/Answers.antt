use Rattle.rewriting.proofs.RewrittenLemmas.{rewritten_is_loop_free, rewritten_has_its_size, rewritten_shows_the_same}
use Rattle.rewriting.proofs.laws.rewriting_keeps_behaviour.Goals as goal

pub returns-clause-loop_free : goal.returns-clause-loop_free
returns-clause-loop_free c = rewritten_is_loop_free

pub returns-clause-size : goal.returns-clause-size
returns-clause-size c = rewritten_has_its_size

pub returns-clause-same : goal.returns-clause-same
returns-clause-same c = rewritten_shows_the_same
