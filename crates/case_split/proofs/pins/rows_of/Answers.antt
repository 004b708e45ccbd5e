use Rattle.std.proofs.Common.{◌≡◌, ℕ, ◌+◌, length, List, map, arith, sym, subst, ap₂, ◌∙◌}
use Rattle.cover_logic.specs.declared.row.Row.{Row}
use Rattle.case_split.specs.declared.cases.ColumnValue.{ColumnValue}
use Rattle.case_split.specs.Pins.{asked_at, AreRows, AreRowsOf}
use Rattle.case_split.proofs.PinLemmas.{rows_next, rows_all}
use Rattle.case_split.proofs.pins.rows_of.Goals as goal

pub loop-place-preserved : goal.loop-place-preserved
loop-place-preserved c =
    subst (AreRowsOf c.args.cases.now c.args.firsts.now c.args.pins.now (c.loop-place.place + 1)) (sym c.in_ok-push.ensures.items)
    (rows_next c.args.cases.now c.args.firsts.now c.args.pins.now c.loop-place.place c.index-cases-place.result c.loop-place.rows.items c.in_ok-row_of.field-0 c.loop-place.invariant c.loop-place-test.true c.index-cases-place.is
    (c.in_ok-row_of.ensures ∙ ap₂ (λ (cube : List ColumnValue) (leaf : ℕ). map (asked_at cube leaf) c.args.pins.now) c.deref.ensures.value c.first_at.ensures))

pub returns : goal.returns
returns c =
    let rows = c.loop-place.rows.items in
    let last : c.loop-place.place ≡ length c.args.cases.now = (let i = c.loop-place.invariant.inside in let t = c.loop-place-test.false in omega arith) in
    subst (AreRows c.args.cases.now c.args.firsts.now c.args.pins.now) (sym {A = List Row} c.in_ok-push-2.ensures.items)
    (rows_all c.args.cases.now c.args.firsts.now c.args.pins.now rows c.in_ok-row_of-2.field-0 (subst (λ (n : ℕ). AreRowsOf c.args.cases.now c.args.firsts.now c.args.pins.now n rows) last c.loop-place.invariant) c.in_ok-row_of-2.ensures)
