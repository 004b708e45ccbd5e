use Rattle.std.proofs.Common.{◌≡◌, refl, sym, ◌∙◌, ap, suc, length, set, get_or, arith, true≢false}
use Rattle.std.proofs.lemmas.List.{length-set}
use Rattle.explanations.specs.declared.pins.Pin.TheVariants.{Known, Open, Free}
use Rattle.explanations.specs.Pins.{free_count}
use Rattle.explanations.proofs.PinLemmas.{can_be_known, cannot_be, free_count-set, by_low, by_high, mapped}
use Rattle.explanations.proofs.pins.+choice.Goals as goal

pub can_be-returns-then-branch : goal.can_be-returns-then-branch
can_be-returns-then-branch t c =
    (λ e. can_be_known c.args.cover.now c.args.pins.now c.args.wanted (c.in_ok-is_surely.ensures.0 c.if-branch.true), λ can. refl)

pub can_be-returns-in_default : goal.can_be-returns-in_default
can_be-returns-in_default t c =
    let none = rw c.in_default.is at c.first_free.ensures.none in
    let unknown = cannot_be c.args.cover.now c.args.pins.now c.args.wanted none (λ e. true≢false (sym (c.in_ok-is_surely.ensures.1 e) ∙ c.if-branch.false)) in
    (λ e. absurd (true≢false (sym e)), λ can. absurd (unknown can))

pub can_be-returns-then-low : goal.can_be-returns-then-low
can_be-returns-then-low t c =
    let free : get_or c.args.pins.now c.in-Some.pin Open ≡ Free = rw c.in-Some.is at c.first_free.ensures.found in
    (λ e. by_low c.args.cover.now c.args.pins.now c.in-Some.pin c.args.wanted free (c.in_ok-low.ensures.0 c.if-low.true), λ can. refl)

pub can_be-returns-else-low : goal.can_be-returns-else-low
can_be-returns-else-low t c =
    let free : get_or c.args.pins.now c.in-Some.pin Open ≡ Free = rw c.in-Some.is at c.first_free.ensures.found in
    mapped c.can_be_with-else-low.result c.can_be_with-else-low.ensures
    (λ can h. by_high c.args.cover.now c.args.pins.now c.in-Some.pin c.args.wanted can free (λ low. true≢false (sym (c.in_ok-low.ensures.1 low) ∙ c.if-low.false)) h)

pub can_be-can_be_with-requires : goal.can_be-can_be_with-requires
can_be-can_be_with-requires t c =
    let free : get_or c.args.pins.now c.in-Some.pin Open ≡ Free = rw c.in-Some.is at c.first_free.ensures.found in
    (omega arith, (c.requires, free))

pub can_be-can_be_with-requires-else-low : goal.can_be-can_be_with-requires-else-low
can_be-can_be_with-requires-else-low t c =
    let free : get_or c.args.pins.now c.in-Some.pin Open ≡ Free = rw c.in-Some.is at c.first_free.ensures.found in
    (omega arith, (c.requires, free))

pub can_be_with-can_be-requires : goal.can_be_with-can_be-requires
can_be_with-can_be-requires t c =
    let is : c.deref.result.now ≡ set c.args.pins.now c.args.pin (Known c.args.bit) = c.deref.ensures.value ∙ c.in_ok-chosen.ensures in
    let fewer : free_count c.args.pins.now ≡ suc (free_count c.deref.result.now) = rw is (free_count-set c.args.pins.now c.args.pin c.args.bit c.requires.free) in
    (omega arith, ap length is ∙ length-set c.args.pins.now c.args.pin (Known c.args.bit) ∙ c.requires.size)
