use Rattle.std.proofs.Common.{◌<◌, ℕ, List, length, get_or, ap, arith}
use Rattle.aig_core.proofs.Common.{enumerate_from, length-enumerate_from, Latch, edge, appended_equal, appended_item, appended_in_item, appended_items, load_line, item_at}
use Rattle.aig_core.specs.declared.edge.Edge.{Edge}
use Rattle.aig_core.proofs.TextLemmas.{numbered, load_is}
use Rattle.aig_core.proofs.binary.put_loads.Goals as goal

pub loop-place-preserved : goal.loop-place-preserved
loop-place-preserved g c =
    let latches = c.args.net.now.latches in
    let k = c.loop-place.place in
    let line : ℕ × Latch → List ℕ = λ item. load_line c.args.built.now item.0 item.1 in
    let latch = c.latch.result.now in
    let within : k < length latches = (let n = c.latches-place-end.ensures.latches in omega arith) in
    let next = ap (λ (es : List Edge). (get_or es k (edge 0)).0) c.items.ensures in
    appended_item line (enumerate_from 0 latches) k (k, latch) _ _ _ _ _ _ _ _ (omega (arith, length-enumerate_from 0 latches)) (numbered latches k latch within (item_at latches k latch c.latch.ensures.latch)) c.loop-place.invariant
    (appended_equal _ _ _ _ (load_is c.args.built.now k c.inputs-inputs.result (get_or c.items.result.now k (edge 0)).0 latch c.inputs-inputs.ensures.inputs next) c.in_ok-put_load.ensures)

pub returns-in_err-put_load : goal.returns-in_err-put_load
returns-in_err-put_load g c =
    let latches = c.args.net.now.latches in
    let k = c.loop-place.place in
    let line : ℕ × Latch → List ℕ = λ item. load_line c.args.built.now item.0 item.1 in
    let latch = c.latch.result.now in
    let within : k < length latches = (let n = c.latches-place-end.ensures.latches in omega arith) in
    let next = ap (λ (es : List Edge). (get_or es k (edge 0)).0) c.items.ensures in
    appended_in_item line (enumerate_from 0 latches) k (k, latch) _ _ _ _ _ _ _ _ _ (omega (arith, length-enumerate_from 0 latches)) (numbered latches k latch within (item_at latches k latch c.latch.ensures.latch)) c.loop-place.invariant
    (appended_equal _ _ _ _ (load_is c.args.built.now k c.inputs-inputs.result (get_or c.items.result.now k (edge 0)).0 latch c.inputs-inputs.ensures.inputs next) c.in_err-put_load.ensures) c.from_residual.ensures.0

pub returns : goal.returns
returns g c =
    let latches = c.args.net.now.latches in
    let line : ℕ × Latch → List ℕ = λ item. load_line c.args.built.now item.0 item.1 in
    let n = c.latches-place-end.ensures.latches in
    appended_items line (enumerate_from 0 latches) c.loop-place.place _ _ (omega (arith, length-enumerate_from 0 latches)) c.loop-place.invariant
