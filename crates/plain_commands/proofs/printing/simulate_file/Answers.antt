use Rattle.std.proofs.Common.{◌≡◌, true}
use Rattle.plain_commands.proofs.Common.{err_from_is_err_and, told, Ends, Prints, with_netlist, with_vectors, end_of, stop_outcome}
use Rattle.plain_commands.specs.Plans.{simulating_on}
use Rattle.plain_commands.specs.Simulation.{sim_text}
use Rattle.plain_commands.proofs.PlanLemmas.{ends_or_lacks, goes_on_alone, goes_on_still, still_ends}
use Rattle.plain_commands.proofs.printing.simulate_file.Goals as goal

pub returns-in_err-net-clause-comes : goal.returns-in_err-net-clause-comes
returns-in_err-net-clause-comes g c =
    let q = err_from_is_err_and c.from_residual.result c.from_residual.ensures.1 in
    rw (q.1, q.2) (c.in_err-net.ensures.bad.follows (simulating_on c.args.vectors.now))

pub returns-in_err-found-clause-comes : goal.returns-in_err-found-clause-comes
returns-in_err-found-clause-comes g c =
    let q = err_from_is_err_and c.from_residual-in_err-found.result c.from_residual-in_err-found.ensures.1 in
    let net = c.in_ok-net.net in
    let end = stop_outcome c.in_err-found.field-0.0 in
    rw (q.1, q.2)
    (goes_on_alone (with_netlist c.args.netlist.now) net (simulating_on c.args.vectors.now) _ _ _ _ _ end c.read_netlist.ensures.same c.in_ok-net.ensures.good
    (c.in_err-found.ensures.bad.follows (λ found. Ends (Prints (sim_text net found)))))

pub returns-clause-comes : goal.returns-clause-comes
returns-clause-comes g c =
    let net = c.in_ok-net.net in
    let found = c.in_ok-found.found.items in
    let ending = Prints (sim_text net found) in
    let end = end_of c.or_stop.result in
    goes_on_alone (with_netlist c.args.netlist.now) net (simulating_on c.args.vectors.now) _ _ _ _ _ end c.read_netlist.ensures.same c.in_ok-net.ensures.good
    (goes_on_still (with_vectors c.args.vectors.now net true) found (λ vectors. Ends (Prints (sim_text net vectors)))
    _ _ _ _ end c.read_vector_file.ensures.same c.in_ok-found.ensures.good
    (still_ends ending end (ends_or_lacks c.tell_sim.result (λ outcome. outcome ≡ told ending) _ c.or_stop.ensures (rw c.deref.ensures.value at c.tell_sim.ensures))))
