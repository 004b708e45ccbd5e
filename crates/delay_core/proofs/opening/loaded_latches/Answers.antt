use Rattle.std.proofs.Common.{◌≡◌, ◌<◌, Bool, List, false, length, get_or, sym, ap, ◌∙◌, arith}
use Rattle.delay_core.proofs.Common.{get_or-map, length-map, take_all, newest, bit_at, loaded_at}
use Rattle.std.proofs.lemmas.Option.{get_or_from_slice_get}
use Rattle.netlist.specs.declared.parts.Latch.{Latch}
use Rattle.delay_core.proofs.ReadingLemmas.{pushed}
use Rattle.delay_core.proofs.opening.loaded_latches.Goals as goal

pub loop-number-preserved : goal.loop-number-preserved
loop-number-preserved c =
    let now : List Bool = newest c.args.timeline.now.history in
    let load : Latch → Bool = λ latch. bit_at now latch.from in
    let is : get_or c.args.net.now.latches c.loop-number.number c.latch.result.now ≡ c.latch.result.now =
    get_or_from_slice_get c.args.net.now.latches c.loop-number.number c.latch.result.now c.latch.result.now c.latch.ensures.latch in
    let in_range : c.loop-number.number < length c.args.net.now.latches = omega arith in
    let here : get_or (loaded_at c.args.net.now now) c.loop-number.number false ≡ c.value.result =
    get_or-map load c.args.net.now.latches c.loop-number.number c.latch.result.now false in_range
    ∙ ap load is ∙ sym c.value.ensures in
    record {
      bits = pushed (loaded_at c.args.net.now now) c.loop-number.bits.items c.push_reserved.new.self.items c.value.result false c.loop-number.number
          (omega (arith, length-map c.args.net.now.latches load)) c.push_reserved.ensures.items c.loop-number.invariant.bits here;
      len = omega arith;
      room = omega arith;
    }

pub loop-number-init : goal.loop-number-init
loop-number-init c = grind arith

pub latch-requires : goal.latch-requires
latch-requires c = omega (arith, c.loop-number-test.true, c.latches-number-end.ensures.latches)

pub value-requires-clause-signal : goal.value-requires-clause-signal
value-requires-clause-signal c = grind (arith, get_or_from_slice_get c.args.net.now.latches c.loop-number.number c.latch.result.now c.latch.result.now c.latch.ensures.latch)

pub push_reserved-requires : goal.push_reserved-requires
push_reserved-requires c = grind arith

pub returns : goal.returns
returns c =
    let now : List Bool = newest c.args.timeline.now.history in
    c.loop-number.invariant.bits
    ∙ take_all c.loop-number.number (loaded_at c.args.net.now now)
    (omega (arith, length-map c.args.net.now.latches (λ (latch : Latch). bit_at now latch.from), c.loop-number-test.false, c.latches-number-end.ensures.latches))
