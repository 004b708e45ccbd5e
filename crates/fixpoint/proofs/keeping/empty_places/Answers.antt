use Rattle.std.proofs.Common.{◌∙◌, ◌++◌, ◌∷◌, [], None, replicate, ap, arith}
use Rattle.std.proofs.lemmas.List.{replicate_more}
use Rattle.fixpoint.proofs.keeping.empty_places.Goals as goal

pub loop-preserved : goal.loop-preserved
loop-preserved c = c.in_ok-push.ensures.items ∙ ap (λ places. places ++ None ∷ []) c.loop.invariant ∙ replicate_more c.loop.counter None

pub returns : goal.returns
returns c = c.loop.invariant ∙ ap (λ n. replicate n None) (omega (arith, c.loop-test.false, c.loop.auto.counter-end))
