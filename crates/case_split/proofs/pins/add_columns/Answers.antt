use Rattle.std.proofs.Common.{List, subst}
use Rattle.std.proofs.lemmas.List.{take_all}
use Rattle.case_split.specs.declared.cases.ColumnValue.{ColumnValue}
use Rattle.case_split.specs.Pins.{column_pins, AddsPins}
use Rattle.case_split.proofs.PinLemmas.{columns_next}
use Rattle.case_split.proofs.pins.add_columns.Goals as goal

pub loop-literal-preserved : goal.loop-literal-preserved
loop-literal-preserved c =
    columns_next c.args.cube.now c.loop-literal.literal-index _ c.args.pins.now.items c.loop-literal.pins.items c.add_pin.new.pins.items c.loop-literal.invariant c.loop-literal-test.true c.in_ok-add_pin.ensures

pub returns : goal.returns
returns c =
    subst (λ (cube : List ColumnValue). AddsPins (column_pins cube) c.args.pins.now.items c.loop-literal.pins.items) (take_all c.loop-literal.literal-index c.args.cube.now c.loop-literal-test.false) c.loop-literal.invariant
