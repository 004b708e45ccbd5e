use Rattle.dot_text.proofs.Common.{appended_equal, appended_then, appended_cut}
use Rattle.dot_text.proofs.GraphLemmas.{named_head}
use Rattle.dot_text.proofs.refusal_graph.open_named.Goals as goal

pub returns-in_err-write_whole : goal.returns-in_err-write_whole
returns-in_err-write_whole g c = appended_equal _ _ _ _ (named_head c.args.name.now) (appended_cut _ _ _ _ _ c.in_err-write_whole.ensures c.from_residual.ensures.0)

pub returns-in_err-put_quoted : goal.returns-in_err-put_quoted
returns-in_err-put_quoted g c =
    appended_equal _ _ _ _ (named_head c.args.name.now)
    (rw (← c.bytes.ensures) (appended_then _ _ _ _ _ _ _ _ _ _ c.in_ok-write_whole.ensures (appended_cut _ _ _ _ _ c.in_err-put_quoted.ensures c.from_residual-in_err-put_quoted.ensures.0)))

pub returns : goal.returns
returns g c =
    appended_equal _ _ _ _ (named_head c.args.name.now)
    (rw (← c.bytes.ensures) (appended_then _ _ _ _ _ _ _ _ _ _ c.in_ok-write_whole.ensures (appended_then _ _ _ _ _ _ _ _ _ _ c.in_ok-put_quoted.ensures c.write_whole-2.ensures)))
