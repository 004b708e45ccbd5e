use Rattle.cyc_tool.proofs.Common.{err_from_is_err_and, ComesOf, options_seen, Compares, with_netlist, end_of, stop_outcome}
use Rattle.plain_commands.specs.Plans.{comparing_on, comparing_with, comparison, with_care}
use Rattle.cyc_tool.proofs.OptionLemmas.{compares_by_options}
use Rattle.plain_commands.proofs.PlanLemmas.{goes_on, stops_whatever}
use Rattle.cyc_tool.proofs.compared.compare_files.Goals as goal

pub returns-in_err-first-clause-comes : goal.returns-in_err-first-clause-comes
returns-in_err-first-clause-comes g c =
    let q = err_from_is_err_and c.from_residual.result c.from_residual.ensures.1 in
    rw (q.1, q.2) (stops_whatever (ComesOf c.args.d.now) (with_netlist c.args.netlist.now) (comparing_with c.args.second.now (options_seen c.args.options)) _ _ c.in_err-first.ensures.bad)

pub returns-in_err-other-clause-comes : goal.returns-in_err-other-clause-comes
returns-in_err-other-clause-comes g c =
    let q = err_from_is_err_and c.from_residual-in_err-other.result c.from_residual-in_err-other.ensures.1 in
    let options = options_seen c.args.options in
    let first = c.in_ok-first.first in
    rw (q.1, q.2)
    (goes_on (ComesOf c.args.d.now) (with_netlist c.args.netlist.now) first (comparing_with c.args.second.now options) _ _ _ _ _ (stop_outcome c.in_err-other.field-0.0)
    c.read_netlist.ensures.same c.in_ok-first.ensures.good (stops_whatever (ComesOf c.args.d.now) (with_netlist c.args.second.now) (comparing_on options first) _ _ c.in_err-other.ensures.bad))

pub returns-in_err-care-clause-comes : goal.returns-in_err-care-clause-comes
returns-in_err-care-clause-comes g c =
    let q = err_from_is_err_and c.from_residual-in_err-care.result c.from_residual-in_err-care.ensures.1 in
    let options = options_seen c.args.options in
    let first = c.in_ok-first.first in
    let other = c.in_ok-other.other in
    let end = stop_outcome c.in_err-care.field-0.0 in
    rw (q.1, q.2)
    (goes_on (ComesOf c.args.d.now) (with_netlist c.args.netlist.now) first (comparing_with c.args.second.now options) _ _ _ _ _ end c.read_netlist.ensures.same c.in_ok-first.ensures.good
    (goes_on (ComesOf c.args.d.now) (with_netlist c.args.second.now) other (comparing_on options first) _ _ _ _ _ end c.read_netlist-2.ensures.same c.in_ok-other.ensures.good
    (stops_whatever (ComesOf c.args.d.now) (with_care options.care first) (λ care. Compares (comparison first other care options)) _ _ c.in_err-care.ensures.bad)))

pub returns-clause-comes : goal.returns-clause-comes
returns-clause-comes g c =
    let options = options_seen c.args.options in
    let first = c.in_ok-first.first in
    let other = c.in_ok-other.other in
    let care = c.in_ok-care.care in
    let nodes = c.tell_comparison.new.d in
    let end = end_of c.or_stop.result in
    let compared = compares_by_options first other care options nodes c.unwrap_or-limit.result c.tell_comparison.result end
    c.unwrap_or-limit.ensures c.or_stop.ensures c.tell_comparison.ensures in
    goes_on (ComesOf nodes) (with_netlist c.args.netlist.now) first (comparing_with c.args.second.now options) _ _ _ _ _ end c.read_netlist.ensures.same c.in_ok-first.ensures.good
    (goes_on (ComesOf nodes) (with_netlist c.args.second.now) other (comparing_on options first) _ _ _ _ _ end c.read_netlist-2.ensures.same c.in_ok-other.ensures.good
    (goes_on (ComesOf nodes) (with_care options.care first) care (λ set. Compares (comparison first other set options)) _ _ _ _ _ end c.read_care.ensures.same c.in_ok-care.ensures.good
    (compared.follows (g.S.Shelf.files c.read_care.new.shelf) (g.S.Shelf.faults c.read_care.new.shelf))))
