use Rattle.std.proofs.Common.{ap, sym}
use Rattle.dot_text.specs.LoopGraphs.{between_node}
use Rattle.dot_text.proofs.Common.{appended_equal, appended_then, appended_cut}
use Rattle.dot_text.proofs.cut_graph.put_body.Goals as goal

pub returns-in_err-put_cuts : goal.returns-in_err-put_cuts
returns-in_err-put_cuts g c = appended_cut _ _ _ _ _ c.in_err-put_cuts.ensures c.from_residual.ensures.0

pub returns-in_err-put_between : goal.returns-in_err-put_between
returns-in_err-put_between g c = appended_then _ _ _ _ _ _ _ _ _ _ c.in_ok-put_cuts.ensures (appended_cut _ _ _ _ _ (appended_equal _ _ _ _ (ap (between_node c.args.number) (sym c.count_between.ensures)) c.in_err-put_between.ensures) c.from_residual-in_err-put_between.ensures.0)

pub returns-in_err-put_wires : goal.returns-in_err-put_wires
returns-in_err-put_wires g c = appended_then _ _ _ _ _ _ _ _ _ _ c.in_ok-put_cuts.ensures (appended_then _ _ _ _ _ _ _ _ _ _ (appended_equal _ _ _ _ (ap (between_node c.args.number) (sym c.count_between.ensures)) c.in_ok-put_between.ensures) (appended_cut _ _ _ _ _ c.in_err-put_wires.ensures c.from_residual-in_err-put_wires.ensures.0))

pub returns : goal.returns
returns g c = appended_then _ _ _ _ _ _ _ _ _ _ c.in_ok-put_cuts.ensures (appended_then _ _ _ _ _ _ _ _ _ _ (appended_equal _ _ _ _ (ap (between_node c.args.number) (sym c.count_between.ensures)) c.in_ok-put_between.ensures) (appended_then _ _ _ _ _ _ _ _ _ _ c.in_ok-put_wires.ensures c.write_whole.ensures))
