use Rattle.std.proofs.Common.{◌≡◌, ◌++◌, map, string_bytes}
use Rattle.maker.specs.Ring.{text_of, row_line, cells}
use Rattle.maker.proofs.lines.put_rows.Given as goal

-- the rows of the cells so far
abbrev pub invariant-loop-i : goal.invariant-loop-i
invariant-loop-i l = string_bytes l.text ≡ string_bytes l.fn.text ++ text_of (map (row_line l.n) (cells l.i))
