use Rattle.cyc_tool.proofs.Common.{err_from_is_err_and, ComesOf, options_seen, Decides, with_netlist, end_of, purpose_seen, stop_outcome}
use Rattle.plain_commands.specs.Plans.{decision, deciding_on, with_care}
use Rattle.cyc_tool.proofs.OptionLemmas.{decides_by_options}
use Rattle.plain_commands.proofs.PlanLemmas.{goes_on, stops_whatever}
use Rattle.cyc_tool.proofs.top.decide_file.Goals as goal

pub returns-in_err-net-clause-comes : goal.returns-in_err-net-clause-comes
returns-in_err-net-clause-comes g c =
    let q = err_from_is_err_and c.from_residual.result c.from_residual.ensures.1 in
    let options = options_seen c.args.options in
    let purpose = purpose_seen c.args.purpose in
    rw (q.1, q.2) (stops_whatever (ComesOf c.args.d.now) (with_netlist c.args.netlist.now) (λ net. deciding_on net options purpose) _ _ c.in_err-net.ensures.bad)

pub returns-in_err-care-clause-comes : goal.returns-in_err-care-clause-comes
returns-in_err-care-clause-comes g c =
    let q = err_from_is_err_and c.from_residual-in_err-care.result c.from_residual-in_err-care.ensures.1 in
    let options = options_seen c.args.options in
    let purpose = purpose_seen c.args.purpose in
    let net = c.in_ok-net.net in
    rw (q.1, q.2)
    (goes_on (ComesOf c.args.d.now) (with_netlist c.args.netlist.now) net (λ n. deciding_on n options purpose)
    _ _ _ _ _ (stop_outcome c.in_err-care.field-0.0) c.read_netlist.ensures.same c.in_ok-net.ensures.good
    (stops_whatever (ComesOf c.args.d.now) (with_care options.care net) (λ care. Decides (decision net care options) purpose) _ _ c.in_err-care.ensures.bad))

pub returns-clause-comes : goal.returns-clause-comes
returns-clause-comes g c =
    let options = options_seen c.args.options in
    let purpose = purpose_seen c.args.purpose in
    let net = c.in_ok-net.net in
    let care = c.in_ok-care.care in
    let nodes = c.tell_decision.new.d in
    let end = end_of c.or_stop.result in
    let decided = decides_by_options net care options purpose nodes c.unwrap_or-limit.result c.unwrap_or-observe.result c.tell_decision.result end
    c.unwrap_or-limit.ensures c.unwrap_or-observe.ensures c.in_ok-net.ensures.valid c.or_stop.ensures c.tell_decision.ensures in
    goes_on (ComesOf nodes) (with_netlist c.args.netlist.now) net (λ n. deciding_on n options purpose) _ _ _ _ _ end c.read_netlist.ensures.same c.in_ok-net.ensures.good
    (goes_on (ComesOf nodes) (with_care options.care net) care (λ set. Decides (decision net set options) purpose) _ _ _ _ _ end c.read_care.ensures.same c.in_ok-care.ensures.good
    (decided.follows (g.S.Shelf.files c.read_care.new.shelf) (g.S.Shelf.faults c.read_care.new.shelf)))
