use Rattle.std.proofs.Common.{ℕ, ◌+◌, ◌∷◌, [], map, arith}
use Rattle.care_rows.proofs.Common.{Gate, and_gate, append_assoc, linked_piece, range_with_len, telling_name, map-range_with_len_more}
use Rattle.care_rows.proofs.telling.Tellers.add.Goals as goal

pub loop-place-preserved : goal.loop-place-preserved
loop-place-preserved c =
    let n = c.loop-place.place in
    let f : ℕ → Gate = λ k. and_gate (telling_name c.args.self.now.mark.now c.args.self.now.total (c.args.number + k)) (linked_piece (c.args.self.now.base + c.args.number) c.args.wires.now k) in
    let old = c.args.gates.now.items in
    grind (arith, append_assoc old (map f (range_with_len 0 n)) (f n ∷ []), map-range_with_len_more f 0 n n)
