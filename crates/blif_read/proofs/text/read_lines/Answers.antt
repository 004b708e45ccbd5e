use Rattle.std.proofs.Common.{arith, ap, sym, ◌∙◌}
use Rattle.std.proofs.lemmas.Result.{err_from_is_err_and}
use Rattle.blif_read.proofs.Common.{if_any, progress_of}
use Rattle.blif_read.proofs.ReadLemmas.{at_next, at_fault, at_end, answers_same}
use Rattle.blif_read.proofs.text.read_lines.Goals as goal

pub returns-in_err-take_line : goal.returns-in_err-take_line
returns-in_err-take_line c =
    let p = err_from_is_err_and c.from_residual.result c.from_residual.ensures.1 in
    rw (p.1, p.2) (λ other. at_fault c.args.lines.now (progress_of c.loop-i.reader) c.loop-i.i c.in_err-take_line.field-0.0 c.loop-i.invariant (omega arith) (rw (← c.line.ensures) (c.in_err-take_line.ensures other)))

pub loop-i-preserved : goal.loop-i-preserved
loop-i-preserved c =
    at_next c.args.lines.now (progress_of c.loop-i.reader) (progress_of c.take_line.new.self) c.loop-i.i c.loop-i.invariant (omega arith)
    (rw (← c.line.ensures) c.in_ok-take_line.ensures.no_fault) (rw (← c.line.ensures) c.in_ok-take_line.ensures.is)

pub returns : goal.returns
returns c = answers_same _ _ (c.if_any.ensures ∙ ap if_any c.in_ok-models.ensures ∙ sym (at_end c.args.lines.now (progress_of c.loop-i.reader) c.loop-i.i c.loop-i.invariant (omega arith)))
