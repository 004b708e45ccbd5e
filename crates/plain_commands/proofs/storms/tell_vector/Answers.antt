use Rattle.std.proofs.Common.{◌≡◌, None, sym, ◌∙◌}
use Rattle.storm.specs.Plans.{storm_plan}
use Rattle.plain_commands.proofs.storms.tell_vector.Goals as goal

pub unreachable-requires : goal.unreachable-requires
unreachable-requires c =
    let net = c.args.net.now in
    let v = c.args.v.now in
    let unknown = c.requires.unknown in
    let some = c.unknown_gates_have_plans.ensures net v unknown.gate unknown.within unknown.unknown in
    let none : storm_plan net v ≡ None = sym c.in_ok-found.ensures ∙ c.in-None.is in
    let both = sym some ∙ none in
    cc
