use Rattle.std.proofs.Common.{◌≡◌, ◌≤◌, true, suc, set, ap, sym, ◌∙◌, subst, true≢false, arith, IfOk, length, rules}
use Rattle.std.proofs.lemmas.List.{places, with_items_is}
use Rattle.std.proofs.lemmas.Option.{get_or_from_slice_get}
use Rattle.std.specs.Vec.{with_items}
use Rattle.cyc_base.specs.declared.trit.Trit.TheVariants.{X, Zero}
use Rattle.cyc_base.specs.Values.{bit}
use Rattle.cover_logic.specs.Partial.{some_row_must_match, unknown_count, open_pins}
use Rattle.cover_logic.proofs.OpenLemmas.{same_open, same_unknown_count}
use Rattle.cover_logic.proofs.TautologyLemmas.{sure, never, decided, one_cofactor, first_fails, first_holds, unknown_count-set}
use Rattle.cover_logic.proofs.extend.+tautology.Goals as goal

pub cofactor_is_tautology-open_are_tautology-requires :
    goal.cofactor_is_tautology-open_are_tautology-requires
cofactor_is_tautology-open_are_tautology-requires t c =
    let fewer : unknown_count c.args.pins.now ≡ suc (unknown_count (set c.args.pins.now c.args.pin c.of.result)) =
    rw c.of.ensures (unknown_count-set c.args.pins.now c.args.pin c.args.value (get_or_from_slice_get c.args.pins.now c.args.pin X Zero c.requires)) in
    let least : unknown_count c.reduce.new.pins ≤ unknown_count (set c.args.pins.now c.args.pin c.of.result) =
    rw (← c.in_ok-copied.ensures, ← c.as_mut_slice-pins.ensures.value) c.reduce.ensures.fewer in
    let size : length c.reduce.new.pins ≡ c.in_ok-copied.copied.len = search (rules, places) in
    let given : unknown_count (with_items c.in_ok-copied.copied c.reduce.new.pins).items ≡ unknown_count c.reduce.new.pins = ap unknown_count (with_items_is c.in_ok-copied.copied c.reduce.new.pins size) in
    (omega arith, tt)

pub rows_are_tautology-returns-then-any_row_surely_matches :
    goal.rows_are_tautology-returns-then-any_row_surely_matches
rows_are_tautology-returns-then-any_row_surely_matches t c =
    sym (sure c.args.rows.now c.args.pins.now (sym c.any_row_surely_matches.ensures ∙ c.if-any_row_surely_matches.true))

pub rows_are_tautology-returns-then-not-any_row_maybe_matches :
    goal.rows_are_tautology-returns-then-not-any_row_maybe_matches
rows_are_tautology-returns-then-not-any_row_maybe_matches t c =
    sym (never c.args.rows.now c.args.pins.now (sym c.any_row_maybe_matches.ensures ∙ c.if-not-any_row_maybe_matches.true))

pub rows_are_tautology-returns-in_default : goal.rows_are_tautology-returns-in_default
rows_are_tautology-returns-in_default t c = grind (arith, true≢false, decided)

pub rows_are_tautology-returns-in-Some-harder_value :
    goal.rows_are_tautology-returns-in-Some-harder_value
rows_are_tautology-returns-in-Some-harder_value t c =
    let unknown = rw c.in-Some.is at c.in_ok-pin.ensures.unknown in
    subst (λ b. IfOk c.cofactor_is_tautology.result (λ all. all ≡ b))
    (one_cofactor c.args.rows.now c.args.pins.now c.in-Some.pin c.in-Some-harder_value.value
    (get_or_from_slice_get c.args.pins.now c.in-Some.pin X X unknown) c.in-Some-harder_value.ensures)
    c.cofactor_is_tautology.ensures

pub rows_are_tautology-returns-then-low : goal.rows_are_tautology-returns-then-low
rows_are_tautology-returns-then-low t c = grind (arith, first_holds, get_or_from_slice_get)

pub rows_are_tautology-returns-else-low : goal.rows_are_tautology-returns-else-low
rows_are_tautology-returns-else-low t c = grind (arith, first_fails, get_or_from_slice_get)

pub cofactor_is_tautology-returns-then-any_row_surely_matches :
    goal.cofactor_is_tautology-returns-then-any_row_surely_matches
cofactor_is_tautology-returns-then-any_row_surely_matches t c =
    let certain : some_row_must_match c.args.rows.now (set c.args.pins.now c.args.pin (bit c.args.value)) ≡ true =
    rw (← c.of.ensures, ← c.in_ok-copied.ensures, ← c.as_mut_slice-pins.ensures.value)
    (sym c.any_row_surely_matches.ensures ∙ c.if-any_row_surely_matches.true) in
    sym (sure c.args.rows.now (set c.args.pins.now c.args.pin (bit c.args.value)) certain)

pub open_are_tautology-rows_are_tautology-requires :
    goal.open_are_tautology-rows_are_tautology-requires
open_are_tautology-rows_are_tautology-requires t c =
    let value = c.deref-3.ensures.value in
    let kept = c.unknown_pins-unknown.ensures in
    let pins : c.deref-3.result.now ≡ open_pins c.args.pins.items = cc in
    let same : unknown_count c.deref-3.result.now ≡ unknown_count c.args.pins.items = ap unknown_count pins ∙ same_unknown_count c.args.pins.items in
    (omega arith, tt)

pub open_are_tautology-returns : goal.open_are_tautology-returns
open_are_tautology-returns t c = grind (arith, same_open)
