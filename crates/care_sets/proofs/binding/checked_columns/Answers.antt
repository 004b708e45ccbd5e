use Rattle.std.proofs.Common.{◌≡◌, ◌<◌, length, nat_lt, ap, sym, inr, arith, ◌∙◌, Some, None}
use Rattle.std.specs.Prelude.{find}
use Rattle.std.specs.List.{position_from}
use Rattle.care_sets.specs.Binding.{is_before}
use Rattle.care_sets.proofs.BindingLemmas.{early_within, early_name, same_length, no_unknown_name, no_early_name, columns_from_first}
use Rattle.care_sets.proofs.FaultLemmas.{not_latch, no_fault}
use Rattle.care_sets.proofs.binding.checked_columns.Goals as goal

pub overflow_cast-place : goal.overflow_cast-place
overflow_cast-place c =
    let place_is : position_from (λ column. nat_lt column c.args.first) 0 c.in_ok-columns.columns.items ≡ Some c.in-Some.place =
    ap (position_from (λ column. nat_lt column c.args.first) 0) (sym c.deref.ensures.value) ∙ sym c.first_before.ensures ∙ c.in-Some.is in
    let within : c.in-Some.place < length c.in_ok-columns.columns.items = early_within c.args.first c.in_ok-columns.columns.items c.in-Some.place place_is in
    omega (arith, same_length c.args.net.now c.args.model.now.inputs c.in_ok-columns.columns.items c.in_ok-columns.ensures.columns, c.refuse_shape.ensures.valid.fits)

pub input_name-requires : goal.input_name-requires
input_name-requires c =
    let place_is : position_from (λ column. nat_lt column c.args.first) 0 c.in_ok-columns.columns.items ≡ Some c.in-Some.place =
    ap (position_from (λ column. nat_lt column c.args.first) 0) (sym c.deref.ensures.value) ∙ sym c.first_before.ensures ∙ c.in-Some.is in
    let within : c.in-Some.place < length c.in_ok-columns.columns.items = early_within c.args.first c.in_ok-columns.columns.items c.in-Some.place place_is in
    omega (arith, same_length c.args.net.now c.args.model.now.inputs c.in_ok-columns.columns.items c.in_ok-columns.ensures.columns)

pub returns-in-Some-clause-fault : goal.returns-in-Some-clause-fault
returns-in-Some-clause-fault c =
    let net = c.args.net.now in
    let model = c.args.model.now in
    let columns = c.in_ok-columns.columns.items in
    let place_is : position_from (λ column. nat_lt column c.args.first) 0 columns ≡ Some c.in-Some.place =
    ap (position_from (λ column. nat_lt column c.args.first) 0) (sym c.deref.ensures.value) ∙ sym c.first_before.ensures ∙ c.in-Some.is in
    let found : find (is_before net c.args.first) model.inputs ≡ Some c.in_ok-name.name =
    early_name net c.args.first model.inputs columns c.in-Some.place c.in_ok-columns.ensures.columns place_is
    ∙ c.input_name.ensures ∙ ap (λ name. Some name) (sym c.in_ok-name.ensures) in
    inr
    (not_latch net c.args.first model c.in_ok-refuse_shape.ensures.latches c.in_ok-refuse_shape.ensures.outputs c.in_ok-name.name
    (no_unknown_name net model.inputs columns c.in_ok-columns.ensures.columns) found)

pub returns-clause-late : goal.returns-clause-late
returns-clause-late c =
    let none : position_from (λ column. nat_lt column c.args.first) 0 c.in_ok-columns.columns.items ≡ None =
    ap (position_from (λ column. nat_lt column c.args.first) 0) (sym c.deref.ensures.value) ∙ sym c.first_before.ensures ∙ c.in_default.is in
    columns_from_first c.args.first c.in_ok-columns.columns.items none

pub returns-clause-sound : goal.returns-clause-sound
returns-clause-sound c = grind (arith, no_fault, no_unknown_name, no_early_name)
