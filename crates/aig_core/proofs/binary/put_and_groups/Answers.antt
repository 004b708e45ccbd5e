use Rattle.std.proofs.Common.{◌+◌, ◌*◌, ◌<◌, ℕ, List, length, arith}
use Rattle.aig_core.proofs.Common.{enumerate_from, length-enumerate_from, And, appended_equal, appended_item, appended_in_item, appended_items, and_groups, item_at}
use Rattle.aig_core.proofs.TextLemmas.{numbered, differences_are}
use Rattle.aig_core.proofs.binary.put_and_groups.Goals as goal

pub put_differences-requires-clause-greater : goal.put_differences-requires-clause-greater
put_differences-requires-clause-greater g c =
    let aig = c.args.aig.now in
    let x : And = record { greater = c.pair.result.0; smaller = c.pair.result.1 } in
    let earlier : c.pair.result.0.0 < 2 * (1 + aig.inputs + aig.latches + c.loop-place.place) = (c.laws.ensures.sound.each c.loop-place.place x c.pair.ensures).earlier in
    let inputs = c.inputs.ensures.inputs in
    let latches = c.latches.ensures.latches in
    omega (arith, earlier, inputs, latches)

pub put_differences-requires-clause-smaller : goal.put_differences-requires-clause-smaller
put_differences-requires-clause-smaller g c =
    let x : And = record { greater = c.pair.result.0; smaller = c.pair.result.1 } in
    let greater : c.pair.result.1.0 < c.pair.result.0.0 = (c.laws.ensures.sound.each c.loop-place.place x c.pair.ensures).greater in
    omega (arith, greater)

pub loop-place-preserved : goal.loop-place-preserved
loop-place-preserved g c =
    let aig = c.args.aig.now in
    let k = c.loop-place.place in
    let line : ℕ × And → List ℕ = λ item. and_groups aig item.0 item.1 in
    let x : And = record { greater = c.pair.result.0; smaller = c.pair.result.1 } in
    let within : k < length aig.ands = (let n = c.count-place-end.ensures.count in omega arith) in
    appended_item line (enumerate_from 0 aig.ands) k (k, x) _ _ _ _ _ _ _ _ (omega (arith, length-enumerate_from 0 aig.ands)) (numbered aig.ands k x within (item_at aig.ands k x c.pair.ensures)) c.loop-place.invariant
    (appended_equal _ _ _ _ (differences_are aig k c.inputs.result c.latches.result x c.inputs.ensures.inputs c.latches.ensures.latches) c.in_ok-put_differences.ensures)

pub returns-in_err-put_differences : goal.returns-in_err-put_differences
returns-in_err-put_differences g c =
    let aig = c.args.aig.now in
    let k = c.loop-place.place in
    let line : ℕ × And → List ℕ = λ item. and_groups aig item.0 item.1 in
    let x : And = record { greater = c.pair.result.0; smaller = c.pair.result.1 } in
    let within : k < length aig.ands = (let n = c.count-place-end.ensures.count in omega arith) in
    appended_in_item line (enumerate_from 0 aig.ands) k (k, x) _ _ _ _ _ _ _ _ _ (omega (arith, length-enumerate_from 0 aig.ands)) (numbered aig.ands k x within (item_at aig.ands k x c.pair.ensures)) c.loop-place.invariant
    (appended_equal _ _ _ _ (differences_are aig k c.inputs.result c.latches.result x c.inputs.ensures.inputs c.latches.ensures.latches) c.in_err-put_differences.ensures) c.from_residual.ensures.0

pub returns : goal.returns
returns g c =
    let aig = c.args.aig.now in
    let line : ℕ × And → List ℕ = λ item. and_groups aig item.0 item.1 in
    let n = c.count-place-end.ensures.count in
    appended_items line (enumerate_from 0 aig.ands) c.loop-place.place _ _ (omega (arith, length-enumerate_from 0 aig.ands)) c.loop-place.invariant
