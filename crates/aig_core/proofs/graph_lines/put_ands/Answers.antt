use Rattle.std.proofs.Common.{◌<◌, ℕ, List, length, arith}
use Rattle.aig_core.proofs.Common.{enumerate_from, length-enumerate_from, And, appended_equal, appended_item, appended_in_item, appended_items, and_line, item_at}
use Rattle.aig_core.proofs.TextLemmas.{numbered, and_is}
use Rattle.aig_core.proofs.graph_lines.put_ands.Goals as goal

pub loop-place-preserved : goal.loop-place-preserved
loop-place-preserved g c =
    let aig = c.args.aig.now in
    let k = c.loop-place.place in
    let line : ℕ × And → List ℕ = λ item. and_line aig item.0 item.1 in
    let x : And = record { greater = c.pair.result.0; smaller = c.pair.result.1 } in
    let within : k < length aig.ands = (let n = c.count-place-end.ensures.count in omega arith) in
    appended_item line (enumerate_from 0 aig.ands) k (k, x) _ _ _ _ _ _ _ _ (omega (arith, length-enumerate_from 0 aig.ands)) (numbered aig.ands k x within (item_at aig.ands k x c.pair.ensures)) c.loop-place.invariant
    (appended_equal _ _ _ _ (and_is aig k c.inputs.result c.latches.result x c.inputs.ensures.inputs c.latches.ensures.latches) c.in_ok-put_line.ensures)

pub returns-in_err-put_line : goal.returns-in_err-put_line
returns-in_err-put_line g c =
    let aig = c.args.aig.now in
    let k = c.loop-place.place in
    let line : ℕ × And → List ℕ = λ item. and_line aig item.0 item.1 in
    let x : And = record { greater = c.pair.result.0; smaller = c.pair.result.1 } in
    let within : k < length aig.ands = (let n = c.count-place-end.ensures.count in omega arith) in
    appended_in_item line (enumerate_from 0 aig.ands) k (k, x) _ _ _ _ _ _ _ _ _ (omega (arith, length-enumerate_from 0 aig.ands)) (numbered aig.ands k x within (item_at aig.ands k x c.pair.ensures)) c.loop-place.invariant
    (appended_equal _ _ _ _ (and_is aig k c.inputs.result c.latches.result x c.inputs.ensures.inputs c.latches.ensures.latches) c.in_err-put_line.ensures) c.from_residual.ensures.0

pub returns : goal.returns
returns g c =
    let aig = c.args.aig.now in
    let line : ℕ × And → List ℕ = λ item. and_line aig item.0 item.1 in
    let n = c.count-place-end.ensures.count in
    appended_items line (enumerate_from 0 aig.ands) c.loop-place.place _ _ (omega (arith, length-enumerate_from 0 aig.ands)) c.loop-place.invariant
