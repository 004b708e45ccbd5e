use Rattle.std.proofs.Common.{◌∷◌, [], map, arith}
use Rattle.miters.proofs.Common.{append_assoc, range_with_len, moved_gate_by, map-range_with_len_more}
use Rattle.miters.proofs.joining.add_moved.Goals as goal

pub loop-number-preserved : goal.loop-number-preserved
loop-number-preserved c =
    let n = c.loop-number.number in
    let f = moved_gate_by c.args.columns.now c.args.first c.args.mark.now c.args.b.now in
    let old = c.args.gates.now.items in
    grind (arith, append_assoc old (map f (range_with_len 0 n)) (f n ∷ []), map-range_with_len_more f 0 n n)
