use Rattle.std.proofs.Common.{◌<◌, ◌++◌, List, [], ◌∷◌, Vec, Global, length, map, get_or, take, sym, ap, ap₂, subst, ◌∙◌, arith}
use Rattle.std.specs.Vec.{vec_items}
use Rattle.std.proofs.lemmas.List.{get_or-map, length-map, map-append, take_all, take_more}
use Rattle.case_split.specs.declared.operands.Operand.{Operand}
use Rattle.case_split.specs.Heads.{leaves_of}
use Rattle.case_split.specs.Tables.{operand_at}
use Rattle.case_split.proofs.heads.leaves_of.Goals as goal

pub operand_of-requires : goal.operand_of-requires
operand_of-requires c =
    subst (λ (xs : List Operand). c.args.signal.0 < length xs)
    (get_or-map vec_items c.args.tables.now c.loop-table.table-index c.table-item.result [] c.loop-table-test.true ∙ ap vec_items (sym c.table-item.is) ∙ sym c.deref.ensures.value)
    (c.requires c.loop-table.table-index [] (let w = length-map c.args.tables.now vec_items in let t = c.loop-table-test.true in omega arith))

pub loop-table-preserved : goal.loop-table-preserved
loop-table-preserved c =
    let tables = c.args.tables.now in
    let s = c.args.signal in
    let before = take c.loop-table.table-index tables in
    let at = get_or tables c.loop-table.table-index c.table-item.result in
    c.in_ok-push.ensures.items
    ∙ ap₂ (λ (xs : List Operand) (x : Operand). xs ++ x ∷ []) c.loop-table.invariant (c.operand_of.ensures ∙ ap (λ (t : List Operand). operand_at t s) (c.deref.ensures.value ∙ ap vec_items c.table-item.is))
    ∙ sym (ap (λ (ts : List (Vec Operand Global)). leaves_of (map vec_items ts) s) (take_more tables c.loop-table.table-index c.table-item.result c.loop-table-test.true)
    ∙ ap (λ (xs : List (List Operand)). leaves_of xs s) (map-append vec_items before (at ∷ []))
    ∙ map-append (λ (t : List Operand). operand_at t s) (map vec_items before) (vec_items at ∷ []))

pub returns : goal.returns
returns c =
    c.loop-table.invariant ∙ ap (λ (ts : List (Vec Operand Global)). leaves_of (map vec_items ts) c.args.signal) (take_all c.loop-table.table-index c.args.tables.now c.loop-table-test.false)
