use Rattle.std.proofs.Common.{◌≡◌, ◌+◌, length, rules}
use Rattle.delay_core.proofs.EventListLemmas.{one_more, more_packed}
use Rattle.delay_core.proofs.events.Events.push.Goals as goal

pub invariant_of-self-2 : goal.invariant_of-self-2
invariant_of-self-2 c =
    let ends : c.in_ok-end.end ≡ length c.self.inside.ages.items + length c.args.ages.now = search rules in
    rw (c.push_reserved.ensures.items, c.in_ok-reserve.ensures.items, c.in_ok-extend_from_slice.ensures.items)
    (more_packed c.self.inside.heads.items c.self.inside.ages.items c.self.invariant _ c.args.ages.now ends)

pub invariant_of-self : goal.invariant_of-self
invariant_of-self c = rw c.in_err-reserve.ensures.items c.self.invariant

pub returns-clause-ok : goal.returns-clause-ok
returns-clause-ok c =
    let ends : c.in_ok-end.end ≡ length c.self.inside.ages.items + length c.args.ages.now = search rules in
    rw (← c.self.view_is, c.push_reserved.ensures.items, c.in_ok-reserve.ensures.items, c.in_ok-extend_from_slice.ensures.items)
    (one_more c.self.inside.heads.items c.self.inside.ages.items c.self.invariant _ c.args.ages.now ends)
