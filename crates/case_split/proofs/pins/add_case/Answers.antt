use Rattle.std.proofs.Common.{List, subst}
use Rattle.std.proofs.lemmas.Result.{on_ok_weaker}
use Rattle.case_split.specs.declared.cases.ColumnValue.{ColumnValue}
use Rattle.case_split.specs.declared.pins.Pin.TheVariants.{Leaf}
use Rattle.case_split.specs.Pins.{column_pins, AddsPins}
use Rattle.case_split.proofs.PinLemmas.{adds_both}
use Rattle.case_split.proofs.pins.add_case.Goals as goal

pub returns : goal.returns
returns c =
    let old = c.args.pins.now.items in
    let mid = c.add_pin.new.pins.items in
    let new = c.add_columns.new.pins.items in
    on_ok_weaker c.add_columns.result
    (λ adds. adds_both (Leaf c.args.first) (column_pins c.args.case.now.cube.items) old mid new c.in_ok-add_pin.ensures (subst (λ (cube : List ColumnValue). AddsPins (column_pins cube) mid new) c.deref.ensures.value adds))
    c.add_columns.ensures
