use Rattle.std.proofs.Common.{List, ℕ, ap, sym}
use Rattle.dot_text.proofs.Common.{appended_cut, appended_equal, appended_then, loops_of}
use Rattle.loops.proofs.ListedLemmas.{loop_gates_inside}
use Rattle.dot_text.specs.LoopGraphs.{cluster}
use Rattle.dot_text.proofs.loop_graph.put_cluster.Goals as goal

pub put_body-requires : goal.put_body-requires
put_body-requires g c = rw c.requires.gates (loop_gates_inside c.args.looped.now.net c.args.listed.first)

pub returns-in_err-put_numbered : goal.returns-in_err-put_numbered
returns-in_err-put_numbered g c = appended_cut _ _ _ _ _ c.in_err-put_numbered.ensures c.from_residual.ensures.0

pub returns-in_err-put_numbered-2 : goal.returns-in_err-put_numbered-2
returns-in_err-put_numbered-2 g c = appended_then _ _ _ _ _ _ _ _ _ _ c.in_ok-put_numbered.ensures (appended_cut _ _ _ _ _ c.in_err-put_numbered-2.ensures c.from_residual-in_err-put_numbered-2.ensures.0)

pub returns-in_err-write_whole : goal.returns-in_err-write_whole
returns-in_err-write_whole g c = appended_then _ _ _ _ _ _ _ _ _ _ c.in_ok-put_numbered.ensures (appended_then _ _ _ _ _ _ _ _ _ _ c.in_ok-put_numbered-2.ensures (appended_cut _ _ _ _ _ c.in_err-write_whole.ensures c.from_residual-in_err-write_whole.ensures.0))

pub returns : goal.returns
returns g c =
    appended_equal _ _ _ _ (ap (λ (gates : List ℕ). cluster c.args.looped.now.net (loops_of c.args.looped.now.net) c.args.listed.number gates) (sym c.requires.gates))
    (appended_then _ _ _ _ _ _ _ _ _ _ c.in_ok-put_numbered.ensures (appended_then _ _ _ _ _ _ _ _ _ _ c.in_ok-put_numbered-2.ensures (appended_then _ _ _ _ _ _ _ _ _ _ c.in_ok-write_whole.ensures c.put_body.ensures)))
