use Rattle.dot_text.proofs.Common.{appended_then, appended_cut}
use Rattle.dot_text.proofs.loop_graph.put_body.Goals as goal

pub returns-in_err-put_gates : goal.returns-in_err-put_gates
returns-in_err-put_gates g c = appended_cut _ _ _ _ _ c.in_err-put_gates.ensures c.from_residual.ensures.0

pub returns-in_err-put_wires : goal.returns-in_err-put_wires
returns-in_err-put_wires g c = appended_then _ _ _ _ _ _ _ _ _ _ c.in_ok-put_gates.ensures (appended_cut _ _ _ _ _ c.in_err-put_wires.ensures c.from_residual-in_err-put_wires.ensures.0)

pub returns : goal.returns
returns g c = appended_then _ _ _ _ _ _ _ _ _ _ c.in_ok-put_gates.ensures (appended_then _ _ _ _ _ _ _ _ _ _ c.in_ok-put_wires.ensures c.write_whole.ensures)
