use Rattle.std.proofs.Common.{arith}
use Rattle.aig_core.proofs.Common.{found, row_made, with_row}
use Rattle.aig_core.proofs.CoverLemmas.{disjunction-grows}
use Rattle.aig_core.proofs.AnswerLemmas.{handed, IsFault-grows}
use Rattle.aig_core.proofs.covers.with_row.Goals as goal

pub returns-in_err-next-clause-made : goal.returns-in_err-next-clause-made
returns-in_err-next-clause-made c =
    let lits = c.args.row.now.lits in
    let next = row_made c.args.aig.now c.args.pins.now lits in
    let whole = with_row c.args.pins.now (found c.args.aig.now c.args.edge) c.args.row.now in
    grind (arith, handed c.from_residual.result c.in_err-next.field-0.0 c.row_edge.new.aig whole c.from_residual.ensures.1, IsFault-grows next.graph whole.graph c.in_err-next.field-0.0 (disjunction-grows next.graph c.args.edge next.edge), disjunction-grows next.graph c.args.edge next.edge)
