use Rattle.std.proofs.Common.{ℕ, ◌+◌, ◌<◌, All, length, sym, subst, arith}
use Rattle.netlist.specs.Fixpoint.{fix}
use Rattle.netlist.specs.Netlists.{count}
use Rattle.netlist.proofs.FixpointLemmas.{length-fix}
use Rattle.case_split.proofs.CaseLemmas.{copied_within, plain_within, table_made}
use Rattle.case_split.proofs.case_tables.table_at.Goals as goal

pub copy_in_order-requires-clause-gates : goal.copy_in_order-requires-clause-gates
copy_in_order-requires-clause-gates c =
    let net = c.args.base.now.net.now in
    subst (All (λ (n : ℕ). n < length net.gates)) (sym c.requires.gates) (copied_within net c.args.base.now.copied.now)

pub copy_in_order-requires-clause-within : goal.copy_in_order-requires-clause-within
copy_in_order-requires-clause-within c =
    let net = c.args.base.now.net.now in
    let wide = length-fix net c.args.given.now c.requires.width in
    plain_within (count net + length c.args.added.now.gates.items) (fix net c.args.given.now) c.in_ok-table.table.items c.in_ok-table.ensures.plain (omega arith)

pub returns : goal.returns
returns c =
    let net = c.args.base.now.net.now in
    table_made net c.args.base.now.copied.now c.args.given.now c.args.gates.now c.args.added.now.gates.items c.copy_in_order.new.added.gates.items c.in_ok-table.table.items c.copy_in_order.new.table.items
    c.requires.gates (length-fix net c.args.given.now c.requires.width) c.in_ok-table.ensures.plain c.in_ok-copy_in_order.ensures
