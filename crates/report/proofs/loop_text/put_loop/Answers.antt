use Rattle.std.proofs.Common.{sym, ap}
use Rattle.std.specs.Prelude.{codes}
use Rattle.report.proofs.Common.{appended_cut, appended_equal, appended_then, loop_seen, Parts, loop_line}
use Rattle.loops.proofs.ListedLemmas.{loop_gates_inside}
use Rattle.report.proofs.LoopTextLemmas.{lines_are}
use Rattle.report.proofs.loop_text.put_loop.Goals as goal

pub put_gates_line-requires : goal.put_gates_line-requires
put_gates_line-requires g c = rw (c.net.ensures.net, c.requires.gates) (loop_gates_inside c.args.looped.now.net c.args.listed.first)

pub put_cut_line-requires : goal.put_cut_line-requires
put_cut_line-requires g c = rw c.requires.gates (loop_gates_inside c.args.looped.now.net c.args.listed.first)

pub returns-in_err-put_gates_line : goal.returns-in_err-put_gates_line
returns-in_err-put_gates_line g c =
    appended_equal _ _ _ _ (lines_are c.args.looped.now.net (loop_seen c.args.listed) c.requires)
    (appended_cut _ _ _ _ _
    (appended_equal _ _ _ _ (ap (λ (net : Parts). loop_line net c.args.listed.number (codes " gates") c.args.listed.gates.now) (sym c.net.ensures.net)) c.in_err-put_gates_line.ensures)
    c.from_residual.ensures.0)

pub returns : goal.returns
returns g c =
    appended_equal _ _ _ _ (lines_are c.args.looped.now.net (loop_seen c.args.listed) c.requires)
    (appended_then _ _ _ _ _ _ _ _ _ _
    (appended_equal _ _ _ _ (ap (λ (net : Parts). loop_line net c.args.listed.number (codes " gates") c.args.listed.gates.now) (sym c.net.ensures.net)) c.in_ok-put_gates_line.ensures)
    c.put_cut_line.ensures)
