use Rattle.std.proofs.Common.{◌≡◌, ◌∙◌, get_or, true, false, arith}
use Rattle.std.proofs.lemmas.List.{get_or_default}
use Rattle.explanations.specs.declared.pins.Pin.TheVariants.{Known, Free}
use Rattle.explanations.specs.Pins.{is_free}
use Rattle.explanations.proofs.PinLemmas.{as_good_better}
use Rattle.explanations.proofs.SideLemmas.{free_pin}
use Rattle.explanations.proofs.pins.choose_better.Goals as goal

pub returns-in-Some : goal.returns-in-Some
returns-in-Some c =
    let pins = c.args.pins.now in
    let pin = c.args.pin in
    let is : is_free (get_or pins pin (Known false)) ≡ true = grind arith in
    let free : get_or pins pin Free ≡ Free = get_or_default pins pin Free (Known false) c.requires.pin ∙ free_pin (get_or pins pin (Known false)) is in
    as_good_better c.args.cover.now pins pin c.in-Some.bit c.args.wanted free c.in-Some.ensures
