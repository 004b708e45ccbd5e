use Rattle.std.proofs.Common.{◌≡◌, ◌++◌, string_bytes}
use Rattle.std.specs.List.{flat_map}
use Rattle.maker.specs.Ring.{text_of, gate_lines, cells}
use Rattle.maker.proofs.lines.put_all_gates.Given as goal

-- the gates of the cells so far
abbrev pub invariant-loop-i : goal.invariant-loop-i
invariant-loop-i l = string_bytes l.text ≡ string_bytes l.fn.text ++ text_of (flat_map (gate_lines l.n) (cells l.i))
