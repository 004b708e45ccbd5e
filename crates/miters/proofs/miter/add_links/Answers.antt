use Rattle.std.proofs.Common.{◌∷◌, [], map, arith}
use Rattle.miters.proofs.Common.{append_assoc, range_with_len, link_gate, map-range_with_len_more}
use Rattle.miters.proofs.miter.add_links.Goals as goal

pub loop-place-preserved : goal.loop-place-preserved
loop-place-preserved c =
    let n = c.loop-place.place in
    let f = link_gate c.args.a.now c.args.number c.args.pairs.now in
    let old = c.args.gates.now.items in
    grind (arith, append_assoc old (map f (range_with_len 0 n)) (f n ∷ []), map-range_with_len_more f 0 n n)
