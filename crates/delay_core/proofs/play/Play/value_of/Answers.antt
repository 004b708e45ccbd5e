use Rattle.std.proofs.Common.{◌≡◌, ◌<◌, length, ap, arith}
use Rattle.delay_core.proofs.Common.{gate_at, Event, SeenPlay}
use Rattle.delay_core.proofs.PlayLemmas.{IsAllowed, is_allowed}
use Rattle.delay_core.proofs.ReadingLemmas.{start-some, length-seen}
use Rattle.delay_core.proofs.play.Play.value_of.Goals as goal

pub read_pins-requires-clause-ages : goal.read_pins-requires-clause-ages
read_pins-requires-clause-ages c =
    let event : Event = record { gate = c.args.gate; ages = c.args.ages.now } in
    let allowed : IsAllowed c.args.self.now.state event = is_allowed c.args.self.now.state event c.requires in
    let size : length c.self.inside.timeline.history ≡ length c.args.self.now.state.history = ap (λ (p : SeenPlay). length p.state.history) c.self.view_is in
    grind (arith, start-some c.self.inside.opening c.self.inside.marks.items c.self.inside.round c.self.inside.window)

pub value-requires : goal.value-requires
value-requires c =
    let event : Event = record { gate = c.args.gate; ages = c.args.ages.now } in
    let allowed : IsAllowed c.args.self.now.state event = is_allowed c.args.self.now.state event c.requires in
    let same : c.self.inside.net.now ≡ c.args.self.now.state.net = ap (λ (p : SeenPlay). p.state.net) c.self.view_is in
    let gate : c.gate-gate.result.now ≡ gate_at c.self.inside.net.now c.args.gate = c.gate-gate.ensures.at in
    let in_range : c.args.gate < length c.self.inside.net.now.gates = rw same allowed.of.gate in
    grind (arith, length-seen c.self.inside.timeline.history c.gate-gate.result.now.pins c.args.ages.now)
