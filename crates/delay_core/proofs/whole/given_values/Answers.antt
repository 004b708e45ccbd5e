use Rattle.std.proofs.Common.{◌≡◌, ◌+◌, ◌<◌, Bool, List, ℕ, false, length, get_or, ap, sym, ◌∙◌, arith}
use Rattle.delay_core.proofs.Common.{take_all, length-map, get_or-map, bits, newest, given_at}
use Rattle.std.proofs.lemmas.List.{get_or-take, length-take}
use Rattle.cyc_base.specs.declared.trit.Trit.TheVariants.{X}
use Rattle.cyc_base.specs.Values.{bit}
use Rattle.delay_core.proofs.ReadingLemmas.{pushed}
use Rattle.delay_core.proofs.whole.given_values.Goals as goal

pub loop-number-preserved : goal.loop-number-preserved
loop-number-preserved c =
    let now : List Bool = newest c.args.play.now.state.history in
    let columns : ℕ = length c.args.net.now.inputs + length c.args.net.now.latches in
    let here : c.loop-number.number < columns = omega (arith, c.loop-number-test.true, c.columns-number-end.ensures.columns) in
    let wide : length now ≡ columns + length c.args.net.now.gates =
    rw c.requires at c.value.ensures.width in
    let some : c.loop-number.number < length (given_at c.args.net.now now) = omega (arith, length-take columns now) in
    let value : get_or (bits (given_at c.args.net.now now)) c.loop-number.number X ≡ c.of.result =
    get_or-map bit (given_at c.args.net.now now) c.loop-number.number false X some
    ∙ ap bit (get_or-take columns now c.loop-number.number false here ∙ sym c.value.ensures.value)
    ∙ sym c.of.ensures in
    record {
      values = pushed (bits (given_at c.args.net.now now)) c.loop-number.values.items c.push_reserved.new.self.items c.of.result X c.loop-number.number
          (omega (arith, length-map (given_at c.args.net.now now) bit)) c.push_reserved.ensures.items c.loop-number.invariant.values value;
      len = omega arith;
      room = omega arith;
    }

pub loop-number-init : goal.loop-number-init
loop-number-init c = grind arith

pub value-requires : goal.value-requires
value-requires c = grind arith

pub push_reserved-requires : goal.push_reserved-requires
push_reserved-requires c = grind arith

pub returns-clause-given : goal.returns-clause-given
returns-clause-given c =
    let now : List Bool = newest c.args.play.now.state.history in
    let columns : ℕ = length c.args.net.now.inputs + length c.args.net.now.latches in
    grind (arith, take_all c.loop-number.number (bits (given_at c.args.net.now now)), length-map (given_at c.args.net.now now) bit, length-take columns now)

pub returns-clause-width : goal.returns-clause-width
returns-clause-width c = grind arith
