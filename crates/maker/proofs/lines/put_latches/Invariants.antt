use Rattle.std.proofs.Common.{◌≡◌, ◌++◌, map, string_bytes}
use Rattle.maker.specs.Ring.{text_of, latch_line, cells}
use Rattle.maker.proofs.lines.put_latches.Given as goal

-- the latches of the cells so far
abbrev pub invariant-loop-i : goal.invariant-loop-i
invariant-loop-i l = string_bytes l.text ≡ string_bytes l.fn.text ++ text_of (map (latch_line l.n) (cells l.i))
