use Rattle.std.proofs.Common.{arith}
use Rattle.blif_read.proofs.Common.{if_any, reads, progress_of}
use Rattle.blif_read.proofs.PartLinesLemmas.{PartsAt, at_start, at_bytes, at_part, at_end, ok_same}
use Rattle.blif_read.proofs.parts.read_parts.Goals as goal
use Rattle.blif_read.proofs.parts.read_parts.Goals.{In_ok-i}

-- behind the bytes that were taken
taken : (c : In_ok-i) → PartsAt c.args.bytes.now (progress_of c.loop-i.reader) c.take_from.new.self c.in_ok-i.i
taken c = grind (arith, at_bytes c.args.bytes.now (progress_of c.loop-i.reader) c.loop-i.parts c.take_from.new.self c.loop-i.i c.in_ok-i.i c.loop-i.invariant)

pub loop-i-init : goal.loop-i-init
loop-i-init c = at_start c.args.bytes.now (progress_of c.new-reader.result) c.new-parts.result c.new-reader.ensures c.new-parts.ensures

pub loop-i-preserved-then-bytes-i-ne10 : goal.loop-i-preserved-then-bytes-i-ne10
loop-i-preserved-then-bytes-i-ne10 c = taken (goal.at.loop-i-preserved-then-bytes-i-ne10 c).In_ok-i

pub loop-i-preserved-in-Some : goal.loop-i-preserved-in-Some
loop-i-preserved-in-Some c =
    grind (arith, at_part c.args.bytes.now (progress_of c.loop-i.reader) (progress_of c.take_part.new.reader) c.take_from.new.self c.part.new.self c.in-Some.part c.in_ok-i.i (taken (goal.at.loop-i-preserved-in-Some c).In_ok-i) c.in-Some.ensures c.in_ok-take_part.ensures, taken (goal.at.loop-i-preserved-in-Some c).In_ok-i)

pub loop-i-preserved : goal.loop-i-preserved
loop-i-preserved c = rw c.in_default.ensures (taken (goal.at.loop-i-preserved c).In_ok-i)

pub returns : goal.returns
returns c = grind (arith, ok_same c.if_any.result (reads c.args.bytes.now), at_end c.args.bytes.now (progress_of c.loop-i.reader) (progress_of c.take_part-2.new.reader) c.loop-i.parts c.in_ok-last.last c.loop-i.i c.loop-i.invariant)
