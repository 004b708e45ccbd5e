use Rattle.std.proofs.Common.{arith, ap, sym, ◌∙◌, refl, get_or}
use Rattle.std.specs.Prelude.{Ok}
use Rattle.std.proofs.lemmas.Result.{err_from_is_err_and}
use Rattle.blif_text.specs.Readers.{state_of}
use Rattle.blif_text.proofs.LoopLemmas.{at_next, at_cr, at_fault, at_end}
use Rattle.blif_text.proofs.lines.read.Goals as goal
use Rattle.blif_text.proofs.lines.read.Goals.{then-not-is_dropped+in_ok-take, else-not-is_dropped}

pub returns-in_err-take : goal.returns-in_err-take
returns-in_err-take c =
    grind (arith, err_from_is_err_and c.from_residual.result c.from_residual.ensures.1, at_fault c.args.bytes.now c.args.joins (state_of c.loop-i.reader) c.loop-i.i (get_or c.args.bytes.now c.loop-i.i 0) c.in_err-take.field-0.0 c.loop-i.invariant)

pub loop-i-preserved : goal.loop-i-preserved
loop-i-preserved c =
    elim c.if-not-is_dropped.branch [
      | then-not-is_dropped+in_ok-take w ↦
          rw w.reader-is (at_next c.args.bytes.now c.args.joins (state_of c.loop-i.reader) (state_of w.take.new.self) c.loop-i.i (get_or c.args.bytes.now c.loop-i.i 0)
          c.loop-i.invariant (omega arith) refl (sym c.is_dropped.ensures ∙ w.if-not-is_dropped.true) w.in_ok-take.ensures)
      | else-not-is_dropped w ↦
          rw w.reader-is (at_cr c.args.bytes.now c.args.joins (state_of c.loop-i.reader) c.loop-i.i (get_or c.args.bytes.now c.loop-i.i 0)
          c.loop-i.invariant (omega arith) refl (sym c.is_dropped.ensures ∙ w.if-not-is_dropped.false))
    ]

pub returns : goal.returns
returns c = at_end c.args.bytes.now c.args.joins (state_of c.loop-i.reader) c.loop-i.i c.loop-i.invariant (omega arith) ∙ ap Ok (sym c.in_ok-buffer.ensures)
