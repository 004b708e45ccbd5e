use Rattle.std.proofs.Common.{List, ℕ, length, map, arith, ap}
use Rattle.aig_core.proofs.Common.{codes, enumerate_from, length-map, length-enumerate_from, appended_item, appended_in_item, appended_items, symbol_line, signal_name}
use Rattle.aig_core.proofs.TextLemmas.{numbered, as_item, few_outputs, output_name}
use Rattle.aig_core.proofs.symbols.put_output_names.Goals as goal

abbrev symbol : ℕ × List ℕ → List ℕ
symbol item = symbol_line (codes "o") item.0 item.1

pub overflow_cast-count : goal.overflow_cast-count
overflow_cast-count g c = grind (arith, few_outputs c.args.net.now c.outputs-outputs.ensures.valid)

pub loop-place-preserved : goal.loop-place-preserved
loop-place-preserved g c =
    let net = c.args.net.now in
    let names = map (signal_name net) net.outputs in
    let k = c.loop-place.place in
    let name = c.bytes.result.now in
    let size = ap length c.outputs-outputs.ensures.outputs in
    let len = length-map net.outputs (signal_name net) in
    let is = as_item names k c.name_of.result.now name c.bytes.ensures (output_name net k c.outputs-outputs.result.now c.name_of.result.now c.outputs-outputs.ensures.outputs (omega arith) c.name_of.ensures.name) in
    appended_item symbol (enumerate_from 0 names) k (k, name) _ _ _ _ _ _ _ _ (omega (arith, length-enumerate_from 0 names)) (numbered names k name (omega arith) is) c.loop-place.invariant c.in_ok-put_symbol.ensures

pub returns-in_err-put_symbol : goal.returns-in_err-put_symbol
returns-in_err-put_symbol g c =
    let net = c.args.net.now in
    let names = map (signal_name net) net.outputs in
    let k = c.loop-place.place in
    let name = c.bytes.result.now in
    let size = ap length c.outputs-outputs.ensures.outputs in
    let len = length-map net.outputs (signal_name net) in
    let is = as_item names k c.name_of.result.now name c.bytes.ensures (output_name net k c.outputs-outputs.result.now c.name_of.result.now c.outputs-outputs.ensures.outputs (omega arith) c.name_of.ensures.name) in
    appended_in_item symbol (enumerate_from 0 names) k (k, name) _ _ _ _ _ _ _ _ _ (omega (arith, length-enumerate_from 0 names)) (numbered names k name (omega arith) is) c.loop-place.invariant c.in_err-put_symbol.ensures c.from_residual.ensures.0

pub returns : goal.returns
returns g c =
    let net = c.args.net.now in
    let names = map (signal_name net) net.outputs in
    let size = ap length c.outputs-outputs.ensures.outputs in
    let len = length-map net.outputs (signal_name net) in
    appended_items symbol (enumerate_from 0 names) c.loop-place.place _ _ (omega (arith, length-enumerate_from 0 names)) c.loop-place.invariant
