use Rattle.std.proofs.Common.{ℕ, ◌<◌, List, All, length, subst, sym, refl}
use Rattle.std.proofs.lemmas.List.{take_all}
use Rattle.std.specs.List.{range_with_len}
use Rattle.std.specs.List.Sorted.{IsPermutation}
use Rattle.case_split.specs.Pins.{pins_for, AddsPins, ArePinsAt}
use Rattle.case_split.proofs.PinLemmas.{at_none, at_next, at_all}
use Rattle.case_split.proofs.pins.pins_of.Goals as goal

pub loop-place-init : goal.loop-place-init
loop-place-init c = rw c.new-pins.ensures.items (at_none c.args.cases.now c.args.firsts.now)

pub loop-place-preserved : goal.loop-place-preserved
loop-place-preserved c =
    let within : All (λ (place : ℕ). place < length c.args.cases.now) c.deref-place-items.result.now =
    subst (All (λ (place : ℕ). place < length c.args.cases.now)) (sym c.deref-place-items.ensures.value) c.in_ok-places.ensures.within in
    at_next c.args.cases.now c.args.firsts.now c.deref-place-items.result.now c.loop-place.place-index _ c.index-cases-place.result c.loop-place.pins.items c.add_case.new.pins.items c.loop-place.invariant c.loop-place-test.true refl (within c.loop-place.place-index 0 c.loop-place-test.true)
    c.index-cases-place.is
    (subst (λ (first : ℕ). AddsPins (pins_for c.index-cases-place.result first) c.loop-place.pins.items c.add_case.new.pins.items) c.first_at.ensures c.in_ok-add_case.ensures)

pub returns : goal.returns
returns c =
    let order = c.deref-place-items.result.now in
    at_all c.args.cases.now c.args.firsts.now order c.loop-place.pins.items c.add_pin.new.pins.items
    (subst (IsPermutation (range_with_len 0 (length c.args.cases.now))) (sym c.deref-place-items.ensures.value) c.in_ok-places.ensures.permuted)
    (subst (λ (places : List ℕ). ArePinsAt c.args.cases.now c.args.firsts.now places c.loop-place.pins.items) (take_all c.loop-place.place-index order c.loop-place-test.false) c.loop-place.invariant)
    c.in_ok-add_pin.ensures
