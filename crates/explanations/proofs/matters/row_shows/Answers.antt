use Rattle.std.proofs.Common.{◌≡◌, length, arith}
use Rattle.std.proofs.lemmas.Option.{slice_get_within}
use Rattle.cyc_base.specs.declared.trit.Trit.TheVariants.{X}
use Rattle.explanations.proofs.MatterLemmas.{cube_size, shown, shows_nothing, shows_it}
use Rattle.explanations.proofs.matters.row_shows.Goals as goal

pub returns-then-not-asks-clause-all : goal.returns-then-not-asks-clause-all
returns-then-not-asks-clause-all c = grind (arith, shows_nothing c.args.cover.now c.args.row.now c.args.trits.now c.args.pin)

pub is_listed-requires-clause-size : goal.is_listed-requires-clause-size
is_listed-requires-clause-size c = grind (arith, cube_size c.args.row.now.lits c.args.trits.now c.in_ok-cube.cube.items)

pub is_listed-requires-clause-pin : goal.is_listed-requires-clause-pin
is_listed-requires-clause-pin c = grind (arith, cube_size c.args.row.now.lits c.args.trits.now c.in_ok-cube.cube.items, slice_get_within c.args.trits.now c.args.pin X)

pub is_listed-requires-2-clause-size : goal.is_listed-requires-2-clause-size
is_listed-requires-2-clause-size c = grind (arith, cube_size c.args.row.now.lits c.args.trits.now c.in_ok-cube.cube.items)

pub is_listed-requires-2-clause-pin : goal.is_listed-requires-2-clause-pin
is_listed-requires-2-clause-pin c = grind (arith, cube_size c.args.row.now.lits c.args.trits.now c.in_ok-cube.cube.items, slice_get_within c.args.trits.now c.args.pin X)

pub returns-clause-shown : goal.returns-clause-shown
returns-clause-shown c =
    grind (arith, shown c.args.cover.now c.args.row.now c.args.trits.now c.in_ok-cube.cube.items c.args.pin c.in_ok-low.low c.in_ok-high.high)

pub returns-clause-all : goal.returns-clause-all
returns-clause-all c =
    let size : length c.args.row.now.lits ≡ length c.args.trits.now = omega arith in
    λ m. grind (arith, shows_it c.args.cover.now c.args.row.now c.args.trits.now c.args.pin c.requires.row size m c.in_ok-cube.cube.items c.in_ok-low.low c.in_ok-high.high)
