use Rattle.std.proofs.Common.{◌≡◌, ◌∙◌}
use Rattle.cyc_base.proofs.OrderLemmas.{EachBelow-length}
use Rattle.netlist.specs.Fixpoint.{fix}
use Rattle.ternary_run.proofs.SettlingLemmas.{length-fix}
use Rattle.explanations.specs.Held.{IsGreatestWithin}
use Rattle.explanations.proofs.NeedLemmas.{less_unknown, less_holding, length-fix_of}
use Rattle.explanations.proofs.needs.with_fewer.Goals as goal

pub values_determined_by-requires-clause-width : goal.values_determined_by-requires-clause-width
values_determined_by-requires-clause-width c =
    rw c.deref.ensures.value (EachBelow-length c.args.given.items c.args.holding.now.given.items c.requires.fewer ∙ c.requires.holding.width)

pub greatest_part-requires-clause-before : goal.greatest_part-requires-clause-before
greatest_part-requires-clause-before c =
    rw (c.deref-2.ensures.value, c.requires.known) (length-fix c.args.net.now c.args.holding.now.given.items c.requires.holding.width)

pub greatest_part-requires-clause-held : goal.greatest_part-requires-clause-held
greatest_part-requires-clause-held c =
    rw (c.deref-2.ensures.value, c.deref-4.ensures.value, c.requires.known) c.requires.holding.greatest.held

pub greatest_part-requires-clause-known : goal.greatest_part-requires-clause-known
greatest_part-requires-clause-known c =
    rw (c.deref-3.ensures.value, c.in_ok-known.ensures.known, c.deref.ensures.value)
    (length-fix_of c.args.net.now c.args.holding.now.given.items c.args.given.items c.requires.holding.width c.requires.fewer)

pub greatest_part-requires-clause-unknown : goal.greatest_part-requires-clause-unknown
greatest_part-requires-clause-unknown c =
    rw (c.deref-3.ensures.value, c.deref-4.ensures.value, c.in_ok-known.ensures.known, c.deref.ensures.value)
    (less_unknown c.args.net.now c.args.holding.now.given.items c.args.holding.now.marks.items c.requires.holding c.args.given.items c.requires.fewer)

pub returns-clause-holding : goal.returns-clause-holding
returns-clause-holding c =
    let net = c.args.net.now in
    let known : c.in_ok-known.known.items ≡ fix net c.args.given.items = rw c.deref.ensures.value at c.in_ok-known.ensures.known in
    let part : IsGreatestWithin net (fix net c.args.given.items) c.args.holding.now.marks.items c.in_ok-marks.marks.items =
    rw (c.deref-3.ensures.value, c.deref-4.ensures.value, known) at c.in_ok-marks.ensures in
    less_holding net c.args.holding.now.given.items c.args.holding.now.marks.items c.requires.holding c.args.given.items c.requires.fewer c.in_ok-marks.marks.items part
