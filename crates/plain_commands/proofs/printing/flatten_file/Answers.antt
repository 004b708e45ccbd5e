use Rattle.std.proofs.Common.{◌≡◌}
use Rattle.plain_commands.proofs.Common.{err_from_is_err_and, written, told, Ends, Prints, with_netlist, end_of}
use Rattle.plain_commands.proofs.PlanLemmas.{ends_or_lacks, goes_on_still, still_ends}
use Rattle.plain_commands.proofs.printing.flatten_file.Goals as goal

pub returns-in_err-net-clause-comes : goal.returns-in_err-net-clause-comes
returns-in_err-net-clause-comes g c =
    let q = err_from_is_err_and c.from_residual.result c.from_residual.ensures.1 in
    rw (q.1, q.2) (c.in_err-net.ensures.bad.follows (λ net. Ends (Prints (written net))))

pub returns-clause-comes : goal.returns-clause-comes
returns-clause-comes g c =
    let ending = Prints (written c.in_ok-net.net) in
    goes_on_still (with_netlist c.args.netlist.now) c.in_ok-net.net (λ net. Ends (Prints (written net))) _ _ _ _ (end_of c.or_stop.result)
    c.read_netlist.ensures.same c.in_ok-net.ensures.good
    (still_ends ending _ (ends_or_lacks c.tell_netlist.result (λ end. end ≡ told ending) _ c.or_stop.ensures c.tell_netlist.ensures))
