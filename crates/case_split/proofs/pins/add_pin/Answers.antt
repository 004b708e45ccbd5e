use Rattle.case_split.proofs.PinLemmas.{adds_new}
use Rattle.case_split.proofs.pins.add_pin.Goals as goal

pub returns : goal.returns
returns c = rw c.in_ok-push.ensures.items (adds_new c.args.pin c.args.pins.now.items)
