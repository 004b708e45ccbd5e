use Rattle.std.proofs.Common.{◌≡◌, ◌++◌, map, decimal, string_bytes}
use Rattle.std.specs.List.{flat_map}
use Rattle.maker.specs.Ring.{behind, cells}
use Rattle.maker.proofs.lines.put_wires.Given as goal

-- the wires of the cells so far
abbrev pub invariant-loop-i : goal.invariant-loop-i
invariant-loop-i l = string_bytes l.text ≡ string_bytes l.fn.text ++ flat_map behind (map (λ i. l.letter ++ decimal i) (cells l.i-counter))
