use Rattle.std.proofs.Common.{string_bytes, arith}
use Rattle.maker.specs.Ring.{line, row_line}
use Rattle.maker.proofs.CellLemmas.{part_more}
use Rattle.maker.proofs.lines.put_rows.Goals as goal

pub loop-i-preserved : goal.loop-i-preserved
loop-i-preserved c = grind (arith, part_more line (row_line c.args.n) (string_bytes c.args.text.now) (string_bytes c.loop-i.text) (string_bytes c.put_row.new.text) c.loop-i.i c.loop-i.invariant c.in_ok-put_row.ensures)
