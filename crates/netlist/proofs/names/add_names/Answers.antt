use Rattle.std.proofs.Common.{arith, get_or, ◌≡◌}
use Rattle.std.proofs.lemmas.Result.{err_from_is_err_and}
use Rattle.netlist.proofs.Repeats.{AddsAll-more, StopsAt-more}
use Rattle.netlist.proofs.names.add_names.Goals as goal

pub loop-item-preserved : goal.loop-item-preserved
loop-item-preserved g c =
    let e : g.T.Named.bytes_of (get_or c.args.items.now c.loop-item.item-index c.item-item.result) ≡ c.name.result.now = cc in
    AddsAll-more g.T.Named.bytes_of c.args.items.now c.loop-item.item-index c.item-item.result _ _ _ (omega arith) c.loop-item.invariant
    (rw e c.in_ok-add_name.ensures.added)

pub returns-in_err-add_name-clause-fault : goal.returns-in_err-add_name-clause-fault
returns-in_err-add_name-clause-fault g c =
    let e : g.T.Named.bytes_of (get_or c.args.items.now c.loop-item.item-index c.item-item.result) ≡ c.name.result.now = cc in
    let p = err_from_is_err_and c.from_residual.result c.from_residual.ensures.1 in
    rw (p.1, p.2)
    (StopsAt-more g.T.Named.bytes_of c.args.items.now c.loop-item.item-index c.item-item.result _ _ _ (omega arith) c.loop-item.invariant
    (rw e c.in_err-add_name.ensures.fault))
