use Rattle.std.proofs.Common.{◌≡◌, ◌<◌, ℕ, length, arith}
use Rattle.std.proofs.lemmas.Result.{IfOk-weaker}
use Rattle.netlist.specs.Netlists.{count, is_marked}
use Rattle.std.proofs.lemmas.List.Elements.{All-weaker}
use Rattle.explanations.specs.Sides.{is_one_of, AreAllSides, AreSides, IsLeavingOut, StandsOpen}
use Rattle.explanations.proofs.SideLemmas.{marks_all, all_hold, are_sides}
use Rattle.explanations.proofs.sides.sides.Goals as goal

pub marks_of-requires : goal.marks_of-requires
marks_of-requires c = All-weaker (StandsOpen c.args.net.now c.args.known.now) (λ g. g < length c.args.net.now.gates) (λ g o. o.gate) c.args.cycle.now c.requires.cycle

pub fewest-requires-clause-cycle : goal.fewest-requires-clause-cycle
fewest-requires-clause-cycle c = All-weaker (StandsOpen c.args.net.now c.args.known.now) (λ g. g < length c.args.net.now.gates) (λ g o. o.gate) c.args.cycle.now c.requires.cycle

pub fewest-requires-clause-holds : goal.fewest-requires-clause-holds
fewest-requires-clause-holds c = grind (arith, all_hold c.args.net.now c.args.known.now c.args.cycle.now, marks_all c.args.net.now c.args.cycle.now)

pub returns : goal.returns
returns c =
    let net = c.args.net.now in
    let known = c.args.known.now in
    let cycle = c.args.cycle.now in
    let marks = c.in_ok-marks.marks.items in
    let same : (s : ℕ) → is_marked marks s ≡ is_one_of net cycle s = marks_all net cycle (length cycle) marks (omega arith) c.in_ok-marks.ensures in
    let all : AreAllSides known marks (count net) c.in_ok-all.all.items = rw c.deref.ensures.value at c.in_ok-all.ensures.all in
    IfOk-weaker c.fewest.result
    (λ sides. IsLeavingOut net (is_marked marks) cycle (count net) c.in_ok-all.all.items sides.items)
    (λ sides. AreSides net known cycle sides.items)
    (λ sides left. are_sides net known cycle marks c.in_ok-all.all.items sides.items same all left)
    (rw c.deref-2.ensures.value at c.fewest.ensures)
