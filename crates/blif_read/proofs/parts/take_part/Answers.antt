use Rattle.std.proofs.Common.{arith}
use Rattle.blif_read.proofs.Common.{progress_of}
use Rattle.blif_read.proofs.PartLinesLemmas.{leads_start, leads_next, leads_end}
use Rattle.blif_read.proofs.parts.take_part.Goals as goal

pub loop-i-init : goal.loop-i-init
loop-i-init c = leads_start c.args.part.now (progress_of c.args.reader.now)

pub loop-i-preserved : goal.loop-i-preserved
loop-i-preserved c =
    leads_next c.args.part.now (progress_of c.args.reader.now) (progress_of c.loop-i.reader) (progress_of c.take_line.new.self) c.loop-i.i c.loop-i.invariant (omega arith)
    (rw (← c.line.ensures) c.in_ok-take_line.ensures.no_fault) (rw (← c.line.ensures) c.in_ok-take_line.ensures.is)

pub returns : goal.returns
returns c = leads_end c.args.part.now (progress_of c.args.reader.now) (progress_of c.loop-i.reader) c.loop-i.i c.loop-i.invariant (omega arith)
