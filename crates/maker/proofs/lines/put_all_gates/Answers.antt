use Rattle.std.proofs.Common.{string_bytes, arith}
use Rattle.maker.specs.Ring.{gate_lines}
use Rattle.maker.proofs.CellLemmas.{text_more}
use Rattle.maker.proofs.lines.put_all_gates.Goals as goal

pub loop-i-preserved : goal.loop-i-preserved
loop-i-preserved c = grind (arith, text_more (gate_lines c.args.n) (string_bytes c.args.text.now) (string_bytes c.loop-i.text) (string_bytes c.put_gates.new.text) c.loop-i.i c.loop-i.invariant c.in_ok-put_gates.ensures)
