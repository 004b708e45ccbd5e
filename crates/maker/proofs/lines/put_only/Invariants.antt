use Rattle.std.proofs.Common.{◌≡◌, ◌++◌, map, ◌==◌, if◌then◌else◌, string_bytes}
use Rattle.maker.specs.Ring.{cells}
use Rattle.maker.proofs.lines.put_only.Given as goal

-- the cells so far
abbrev pub invariant-loop-j : goal.invariant-loop-j
invariant-loop-j l = string_bytes l.text ≡ string_bytes l.fn.text ++ map (λ j. if j == l.i then 49 else 48) (cells l.j)
