use Rattle.std.proofs.Common.{◌<◌, ◌-◌, length, arith}
use Rattle.delay_core.proofs.Common.{get_or_read}
use Rattle.delay_core.proofs.HistoryLemmas.{told-age, told-width, value-told}
use Rattle.delay_core.proofs.timeline.Timeline.value.Goals as goal

pub overflow_sub-self-inside : goal.overflow_sub-self-inside
overflow_sub-self-inside c = grind (arith, told-age c.self.inside.entries.items c.self.inside.newest.items c.self.inside.moments c.self.inside.spare c.args.age c.args.self.now c.self.view_is c.requires.age)

pub value_at-requires-clause-head : goal.value_at-requires-clause-head
value_at-requires-clause-head c =
    grind (arith, told-width c.self.inside.entries.items c.self.inside.newest.items c.self.inside.moments c.self.inside.spare c.args.self.now c.self.invariant.0 c.self.view_is, get_or_read c.self.inside.newest.items c.args.s c.index.result.now)

pub value_at-requires-clause-moment : goal.value_at-requires-clause-moment
value_at-requires-clause-moment c = grind (arith, told-age c.self.inside.entries.items c.self.inside.newest.items c.self.inside.moments c.self.inside.spare c.args.age c.args.self.now c.self.view_is c.requires.age)

pub returns : goal.returns
returns c =
    let width = told-width c.self.inside.entries.items c.self.inside.newest.items c.self.inside.moments c.self.inside.spare c.args.self.now c.self.invariant.0 c.self.view_is in
    let signal : c.args.s < length c.self.inside.newest.items = omega (arith, c.requires.signal) in
    let age = told-age c.self.inside.entries.items c.self.inside.newest.items c.self.inside.moments c.self.inside.spare c.args.age c.args.self.now c.self.view_is c.requires.age in
    grind (arith, value-told c.self.inside.entries.items c.self.inside.newest.items c.self.inside.moments c.args.s c.args.age c.index.result.now signal age c.index.ensures)
