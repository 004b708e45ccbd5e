use Rattle.std.proofs.Common.{◌≡◌, ◌++◌, map}
use Rattle.miters.proofs.Common.{range_with_len, link_gate}
use Rattle.miters.proofs.miter.add_links.Given as goal

abbrev pub invariant-loop-place : goal.invariant-loop-place
invariant-loop-place l = l.gates.items ≡ l.initial.gates.items ++ map (link_gate l.a l.number l.pairs) (range_with_len 0 l.place)
