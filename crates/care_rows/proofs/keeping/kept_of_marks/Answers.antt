use Rattle.std.proofs.Common.{List, Bool, refl, ap, length, arith}
use Rattle.care_rows.proofs.KeepLemmas.{placed_is}
use Rattle.care_rows.proofs.RankLemmas.{rank_within}
use Rattle.care_rows.proofs.keeping.kept_of_marks.Goals as goal

pub add_places-requires-2 : goal.add_places-requires-2
add_places-requires-2 c =
    let one = ap (λ (xs : List Bool). length xs) c.deref.ensures.value in
    let two = ap (λ (xs : List Bool). length xs) c.deref-2.ensures.value in
    let next = c.in_ok-inputs.ensures.next in
    let few = rank_within c.deref.result.now (length c.deref.result.now) in
    let room = c.requires in
    omega (arith, one, two, next, few, room)

pub returns : goal.returns
returns c =
    let are = placed_is c.args.columns.items c.args.gates.items c.deref.result.now c.deref-2.result.now c.new-places.result.items c.add_places.new.places.items c.add_places-2.new.places.items c.in_ok-inputs.inputs c.in_ok-signals.signals
    c.deref.ensures.value c.deref-2.ensures.value c.new-places.ensures.items c.in_ok-inputs.ensures.places c.in_ok-inputs.ensures.next c.in_ok-signals.ensures.places c.in_ok-signals.ensures.next in
    record { columns_are = refl; gates_are = refl; table_is = are.0; inputs_are = are.1; signals_are = are.2 }
