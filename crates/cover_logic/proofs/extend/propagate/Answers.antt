use Rattle.std.proofs.Common.{ap, sym, ◌∙◌, arith}
use Rattle.cover_logic.specs.Partial.{is_tautology}
use Rattle.cover_logic.proofs.TautologyLemmas.{propagated, set_back}
use Rattle.cover_logic.proofs.extend.propagate.Goals as goal
use Rattle.cover_logic.proofs.extend.propagate.Goals.{then-decides, else-decides}

pub returns-clause-same : goal.returns-clause-same
returns-clause-same c =
    elim c.if-decides.branch [
      | then-decides w ↦ (propagated c.args.rows.now c.args.row c.index-rows-row.result c.items-lits.result.now c.args.pins.now c.in-Some.pin c.row_asks-asked.result c.of.result c.if-decides.pins
          c.requires c.items-lits.ensures c.in-Some.ensures c.of.ensures (w.pins-is ∙ w.of-then-decides.ensures)
          (sym c.row_surely_matches-decides.ensures ∙ w.if-decides.true)).0
      | else-decides w ↦ ap (is_tautology c.args.rows.now) (set_back c.args.pins.now c.in-Some.pin c.of.result c.if-decides.pins c.in-Some.ensures w.pins-is)
    ]

pub returns-clause-fewer : goal.returns-clause-fewer
returns-clause-fewer c =
    elim c.if-decides.branch [
      | then-decides w ↦ rw w.if-decides.true (propagated c.args.rows.now c.args.row c.index-rows-row.result c.items-lits.result.now c.args.pins.now c.in-Some.pin c.row_asks-asked.result c.of.result c.if-decides.pins
          c.requires c.items-lits.ensures c.in-Some.ensures c.of.ensures (w.pins-is ∙ w.of-then-decides.ensures)
          (sym c.row_surely_matches-decides.ensures ∙ w.if-decides.true)).1
      | else-decides w ↦ rw (w.if-decides.false, set_back c.args.pins.now c.in-Some.pin c.of.result c.if-decides.pins c.in-Some.ensures w.pins-is) (omega arith)
    ]
