use Rattle.std.proofs.Common.{◌∙◌}
use Rattle.explain_text.proofs.Common.{IfOk-weaker, cut_cluster, loops_of}
use Rattle.explain_text.proofs.GraphLemmas.{cluster_told}
use Rattle.loops.proofs.ListedLemmas.{loop_gates_inside}
use Rattle.explain_text.proofs.graph.tell_short.Goals as goal

pub tell_cuts-requires : goal.tell_cuts-requires
tell_cuts-requires c = rw (c.looped.ensures.looped, c.requires.gates) (loop_gates_inside c.args.counted.now.net c.args.listed.first)

pub returns : goal.returns
returns c =
    IfOk-weaker c.tell_cuts.result _ _ (λ done told.
    cluster_told (λ looped text gates. cut_cluster looped.net (loops_of looped.net) c.args.listed.number text gates) _ _ _ _ _ _ _ _ told
    c.looped.ensures.looped (c.deref.ensures.value ∙ c.in_ok-line.ensures) c.requires.gates)
    c.tell_cuts.ensures
