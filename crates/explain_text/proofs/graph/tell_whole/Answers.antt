use Rattle.std.proofs.Common.{◌∙◌}
use Rattle.explain_text.proofs.Common.{IfOk-weaker, labelled_cluster, loops_of}
use Rattle.explain_text.proofs.GraphLemmas.{cluster_told}
use Rattle.loops.proofs.ListedLemmas.{loop_gates_inside}
use Rattle.explain_text.proofs.graph.tell_whole.Goals as goal

pub tell_labelled-requires : goal.tell_labelled-requires
tell_labelled-requires c = rw (c.looped.ensures.looped, c.requires.gates) (loop_gates_inside c.args.counted.now.net c.args.listed.first)

pub returns : goal.returns
returns c =
    IfOk-weaker c.tell_labelled.result _ _ (λ done told.
    cluster_told (λ looped text gates. labelled_cluster looped.net (loops_of looped.net) c.args.listed.number text gates) _ _ _ _ _ _ _ _ told
    c.looped.ensures.looped (c.deref.ensures.value ∙ c.in_ok-lines.ensures) c.requires.gates)
    c.tell_labelled.ensures
