use Rattle.std.proofs.Common.{◌≡◌, ◌≤◌, ◌++◌, suc, length, map, ap, ◌∙◌, arith}
use Rattle.unroll.proofs.Common.{length-replicate, first_gate, loops_in, net_of, sweeps_in, most, constants, copies_upto, copy_gate}
use Rattle.unroll.proofs.Places.{copied_within}
use Rattle.unroll.proofs.Rounds.{none_made, none_entered, all_entered, round_fits, made_next}
use Rattle.unroll.proofs.Counts.{loops_are, sweeps_are}
use Rattle.unroll.proofs.copies.add_rounds.Goals as goal

pub loop-number-init : goal.loop-number-init
loop-number-init c =
    let net = net_of c.args.plan.now in
    let loops = loops_in c.args.plan.now in
    let m = sweeps_in c.args.plan.now in
    grind (arith, none_made net loops m c.args.gates.now.items c.requires.gates, none_entered net loops m c.args.tables.now.earlier.items c.requires.earlier, length-replicate (length net.gates) (first_gate net))

pub add_round-requires-clause-active : goal.add_round-requires-clause-active
add_round-requires-clause-active c = grind (arith, copied_within)

pub add_round-requires-clause-fits : goal.add_round-requires-clause-fits
add_round-requires-clause-fits c =
    let net = net_of c.args.plan.now in
    let loops = loops_in c.args.plan.now in
    let m = sweeps_in c.args.plan.now in
    let test = c.loop-number-test.true in
    let top = c.most_copies-number-end.ensures.most in
    round_fits net loops m c.loop-number.number c.args.plan.now.by c.loop-number.gates.items c.deref.result.now
    (let up : suc c.loop-number.number ≤ most loops.same m (length net.gates) = omega arith in up)
    c.args.plan.now.shifted c.args.plan.now.fits c.loop-number.invariant.made
    (c.deref.ensures.value ∙ c.loop-number.invariant.next)

pub with_more_copies-requires : goal.with_more_copies-requires
with_more_copies-requires c = grind (arith, copied_within)

pub loop-number-preserved : goal.loop-number-preserved
loop-number-preserved c =
    let net = net_of c.args.plan.now in
    let loops = loops_in c.args.plan.now in
    let m = sweeps_in c.args.plan.now in
    let k = c.loop-number.number in
    let inv = c.loop-number.invariant in
    let test = c.loop-number-test.true in
    let top_is = c.most_copies-number-end.ensures.most in
    let top : suc k ≤ most loops.same m (length net.gates) = omega arith in
    let are = loops_are c.args.plan.now.counted.now c.most_copies-number-end.ensures.is in
    let of_loops = sweeps_are c.args.plan.now.counted.now c.most_copies-number-end.ensures.is in
    made_next net loops m are of_loops k c.args.plan.now.by c.args.plan.now.mark
    c.loop-number.active.items c.deref.result.now c.deref-in-loop-number.result.now c.in_ok-active-2.active.items
    c.loop-number.gates.items c.add_round.new.gates.items
    c.loop-number.tables.earlier.items c.add_round.new.tables.earlier.items c.loop-number.tables.current.items c.add_round.new.tables.current.items
    top c.args.plan.now.marked c.args.plan.now.shifted inv c.deref.ensures.value c.deref-in-loop-number.ensures.value
    c.in_ok-add_round.ensures.gates c.in_ok-add_round.ensures.earlier c.in_ok-add_round.ensures.widths.1 c.in_ok-active-2.ensures

pub returns-clause-gates : goal.returns-clause-gates
returns-clause-gates c =
    let net = net_of c.args.plan.now in
    let loops = loops_in c.args.plan.now in
    let m = sweeps_in c.args.plan.now in
    let test = c.loop-number-test.false in
    let end = c.loop-number.auto.number-end in
    let top = c.most_copies-number-end.ensures.most in
    let all : c.loop-number.number ≡ most loops.same m (length net.gates) = omega arith in
    c.loop-number.invariant.made ∙ ap (λ k. constants net loops ++ map (copy_gate net loops m) (copies_upto net loops m k)) all

pub returns-clause-last : goal.returns-clause-last
returns-clause-last c =
    let net = net_of c.args.plan.now in
    let loops = loops_in c.args.plan.now in
    let m = sweeps_in c.args.plan.now in
    grind (arith, all_entered net loops m c.loop-number.number c.loop-number.tables.earlier.items)
