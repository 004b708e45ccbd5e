use Rattle.std.proofs.Common.{List, [], ◌∷◌, ◌++◌, ap, ap₂, map, sym, ◌∙◌}
use Rattle.std.proofs.lemmas.List.{map_more, take_all}
use Rattle.cover_logic.specs.declared.row.Lit.{Lit}
use Rattle.cover_logic.specs.declared.row.Row.{Row}
use Rattle.case_split.specs.Cofactors.{left_lits, left_row}
use Rattle.case_split.proofs.cofactors.left_rows.Goals as goal

row_of : List Lit → Row
row_of lits = record { lits = lits }

pub loop-row-preserved : goal.loop-row-preserved
unfolding row_of
loop-row-preserved c =
    let left = c.args.left.now in
    c.in_ok-push.ensures.items
    ∙ ap₂ (λ (rows : List Row) (row : Row). rows ++ row ∷ []) c.loop-row.invariant
    (ap row_of (c.of-lits.ensures ∙ c.in_ok-left_lits.ensures ∙ ap (λ (lits : List Lit). left_lits lits left) c.items.ensures) ∙ ap (left_row left) c.row-item.is)
    ∙ sym (map_more (left_row left) c.args.live.now c.loop-row.row-index c.row-item.result c.loop-row-test.true)

pub returns : goal.returns
returns c = c.loop-row.invariant ∙ ap (map (left_row c.args.left.now)) (take_all c.loop-row.row-index c.args.live.now c.loop-row-test.false)
