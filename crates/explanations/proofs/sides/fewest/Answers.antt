use Rattle.std.proofs.Common.{◌≡◌, List, length, sym, subst, arith}
use Rattle.std.proofs.lemmas.List.{take_at}
use Rattle.netlist.specs.Netlists.{count, is_marked}
use Rattle.explanations.specs.declared.pins.Pin.{Pin}
use Rattle.explanations.specs.Sides.{IsLeavingOut}
use Rattle.explanations.proofs.sides.fewest.Goals as goal

pub returns : goal.returns
returns c =
    let net = c.args.net.now in
    let fewest = c.leave_out_by_preference.new.sides in
    let done : IsLeavingOut net (is_marked c.args.marks.now) c.args.cycle.now (count net) c.args.sides.items fewest = rw c.deref_mut.ensures.value at c.in_ok-leave_out_by_preference.ensures in
    let same = done.size in
    let own = c.args.sides.ok.0 in
    let size : length fewest ≡ c.args.sides.len = omega arith in
    subst (λ (sides : List Pin). IsLeavingOut net (is_marked c.args.marks.now) c.args.cycle.now (count net) c.args.sides.items sides)
    (sym (take_at fewest _ c.args.sides.len size)) done
