use Rattle.cyc_tool.proofs.Common.{IfOk-weaker, outcome_of}
use Rattle.plain_commands.specs.Plans.{Comparison}
use Rattle.cyc_tool.proofs.ComparedLemmas.{found_compares, limit_compares}
use Rattle.cyc_tool.proofs.compared.tell_comparison.Goals as goal

pub returns-in-Ok : goal.returns-in-Ok
returns-in-Ok c =
    let pair : Comparison = record { first = c.args.first.now; second = c.args.second.now; care = c.args.care.now; limit = c.args.limit } in
    found_compares pair c.tell_equality.new.d c.in-Ok.told (outcome_of c.tell_found.result) c.tell_found.ensures
    (rw c.in-Ok.is at c.tell_equality.ensures.told) (rw c.in-Ok.is at c.tell_equality.ensures.shown)

pub returns-in-Err : goal.returns-in-Err
returns-in-Err c =
    let pair : Comparison = record { first = c.args.first.now; second = c.args.second.now; care = c.args.care.now; limit = c.args.limit } in
    IfOk-weaker c.tell_unfinished.result _ _ (λ told same.
    limit_compares pair c.tell_equality.new.d told c.tell_equality.result c.in-Err.fault c.in-Err.is same c.tell_equality.ensures.fault c.tell_equality.ensures.limited)
    c.tell_unfinished.ensures
