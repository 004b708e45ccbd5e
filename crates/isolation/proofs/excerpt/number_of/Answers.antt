use Rattle.std.proofs.Common.{map, arith, sym, true≢false}
use Rattle.isolation.proofs.Common.{length-append, length-map, gate_sig}
use Rattle.isolation.proofs.excerpt.number_of.Goals as goal

pub returns-in_err-place-clause-some : goal.returns-in_err-place-clause-some
returns-in_err-place-clause-some c numerable among = absurd (true≢false (sym (c.in_err-place.ensures.some numerable.rise among)))

pub returns-in-Ok-clause-number : goal.returns-in-Ok-clause-number
returns-in-Ok-clause-number c = grind arith

pub returns-in-Err-clause-some : goal.returns-in-Err-clause-some
returns-in-Err-clause-some c numerable among =
    let one = length-append c.args.outside.now.keys (map (gate_sig c.args.net.now) c.args.gates.now) in
    let two = length-map c.args.gates.now (gate_sig c.args.net.now) in
    absurd (c.in-Err.ensures (omega (arith, c.in_ok-place.ensures.place.within, numerable.fits, one, two)))
