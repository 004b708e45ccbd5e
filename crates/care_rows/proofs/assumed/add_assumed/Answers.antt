use Rattle.std.proofs.Common.{◌∷◌, [], map, arith}
use Rattle.care_rows.proofs.Common.{append_assoc, range_with_len, assumed_gate, map-range_with_len_more}
use Rattle.care_rows.proofs.assumed.add_assumed.Goals as goal

pub loop-number-preserved : goal.loop-number-preserved
loop-number-preserved c =
    let n = c.loop-number.number in
    let f = assumed_gate c.args.inputs.now c.args.first c.args.mark.now c.args.old.now in
    let old = c.args.gates.now.items in
    grind (arith, append_assoc old (map f (range_with_len 0 n)) (f n ∷ []), map-range_with_len_more f 0 n n)
