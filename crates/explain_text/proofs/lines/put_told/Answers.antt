use Rattle.std.proofs.Common.{ap, sym}
use Rattle.explain_text.proofs.Common.{appended_then, appended_cut, appended_equal, Parts, marked_columns, columns_line}
use Rattle.explain_text.proofs.lines.put_told.Goals as goal

pub returns-in_err-put_loop : goal.returns-in_err-put_loop
returns-in_err-put_loop g c = appended_cut _ _ _ _ _ c.in_err-put_loop.ensures c.from_residual.ensures.0

pub returns-in_err-put_sweeps_line : goal.returns-in_err-put_sweeps_line
returns-in_err-put_sweeps_line g c = appended_then _ _ _ _ _ _ _ _ _ _ c.in_ok-put_loop.ensures (appended_cut _ _ _ _ _ c.in_err-put_sweeps_line.ensures c.from_residual-in_err-put_sweeps_line.ensures.0)

pub returns : goal.returns
returns g c =
    appended_then _ _ _ _ _ _ _ _ _ _ c.in_ok-put_loop.ensures
    (appended_then _ _ _ _ _ _ _ _ _ _ c.in_ok-put_sweeps_line.ensures
    (appended_equal _ _ _ _ (ap (λ (net : Parts). columns_line net c.args.listed.number (marked_columns net c.args.read.now)) (sym c.net.ensures.net)) c.put_columns_line.ensures))
