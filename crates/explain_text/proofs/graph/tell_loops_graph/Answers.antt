use Rattle.explain_text.proofs.Common.{IfOk-weaker}
use Rattle.explain_text.proofs.GraphLemmas.{three_told}
use Rattle.explain_text.proofs.graph.tell_loops_graph.Goals as goal

pub returns-clause-told : goal.returns-clause-told
returns-clause-told c =
    IfOk-weaker c.tell_end.result _ _ (λ done told. three_told _ _ _ _ _ _ _ c.in_ok-tell_head.ensures c.in_ok-tell_clusters.ensures.told told) c.tell_end.ensures

pub returns-clause-on_care : goal.returns-clause-on_care
returns-clause-on_care c =
    IfOk-weaker c.tell_end.result _ _ (λ done told care on_care. three_told _ _ _ _ _ _ _ c.in_ok-tell_head.ensures (c.in_ok-tell_clusters.ensures.on_care care on_care) told)
    c.tell_end.ensures
