use Rattle.std.proofs.Common.{◌≡◌, ◌++◌, ◌+◌, map}
use Rattle.care_rows.proofs.Common.{and_gate, linked_piece, range_with_len, telling_name}
use Rattle.care_rows.proofs.telling.Tellers.add.Given as goal

abbrev pub invariant-loop-place : goal.invariant-loop-place
invariant-loop-place l = l.gates.items ≡ l.initial.gates.items ++ map (λ k. and_gate (telling_name l.self.mark.now l.self.total (l.number + k)) (linked_piece (l.self.base + l.number) l.wires k)) (range_with_len 0 l.place)
