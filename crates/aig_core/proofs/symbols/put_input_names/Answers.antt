use Rattle.std.proofs.Common.{List, ℕ, arith}
use Rattle.aig_core.proofs.Common.{codes, enumerate_from, length-enumerate_from, appended_none, appended_item, appended_in_item, appended_items, symbol_line}
use Rattle.aig_core.proofs.TextLemmas.{numbered, as_item, input_name}
use Rattle.aig_core.proofs.symbols.put_input_names.Goals as goal

abbrev symbol : ℕ × List ℕ → List ℕ
symbol item = symbol_line (codes "i") item.0 item.1

pub loop-place-init : goal.loop-place-init
loop-place-init g c = appended_none _ _ _

pub loop-place-preserved : goal.loop-place-preserved
loop-place-preserved g c =
    let names = c.args.net.now.inputs in
    let k = c.loop-place.place in
    let name = c.bytes.result.now in
    let len = c.inputs-place-end.ensures.inputs in
    let is = as_item names k c.name_of.result.now name c.bytes.ensures (input_name c.args.net.now k c.name_of.result.now (omega arith) c.name_of.ensures.name) in
    appended_item symbol (enumerate_from 0 names) k (k, name) _ _ _ _ _ _ _ _ (omega (arith, length-enumerate_from 0 names)) (numbered names k name (omega arith) is) c.loop-place.invariant c.in_ok-put_symbol.ensures

pub returns-in_err-put_symbol : goal.returns-in_err-put_symbol
returns-in_err-put_symbol g c =
    let names = c.args.net.now.inputs in
    let k = c.loop-place.place in
    let name = c.bytes.result.now in
    let len = c.inputs-place-end.ensures.inputs in
    let is = as_item names k c.name_of.result.now name c.bytes.ensures (input_name c.args.net.now k c.name_of.result.now (omega arith) c.name_of.ensures.name) in
    appended_in_item symbol (enumerate_from 0 names) k (k, name) _ _ _ _ _ _ _ _ _ (omega (arith, length-enumerate_from 0 names)) (numbered names k name (omega arith) is) c.loop-place.invariant c.in_err-put_symbol.ensures c.from_residual.ensures.0

pub returns : goal.returns
returns g c =
    let names = c.args.net.now.inputs in
    let len = c.inputs-place-end.ensures.inputs in
    appended_items symbol (enumerate_from 0 names) c.loop-place.place _ _ (omega (arith, length-enumerate_from 0 names)) c.loop-place.invariant
