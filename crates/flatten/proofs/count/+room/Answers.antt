use Rattle.std.proofs.Common.{inr, ap, sym, ◌∙◌, Ok, Err, arith}
use Rattle.flatten.proofs.Common.{BlifModel}
use Rattle.flatten.specs.Counting.{entered_below}
use Rattle.flatten.proofs.Counting.{inside_is, next_leaves, next_fails, none_left, line_passed, line_fault, part_refused, no_part, part_leaves, part_fails}
use Rattle.flatten.proofs.Results.{handed_on}
use Rattle.flatten.proofs.count.+room.Goals as goal

pub room_behind-returns-in_err-left-clause-fault :
    goal.room_behind-returns-in_err-left-clause-fault
room_behind-returns-in_err-left-clause-fault t c =
    handed_on _ c.from_residual.result _ c.from_residual.ensures.1 c.in_err-left.ensures.fault
    (λ h. c.loop-item.invariant.so_far (Err c.in_err-left.field-0.0) (next_fails c.args.hierarchy.now.depth c.args.hierarchy.now.models c.args.trail.now.items c.loop-item.left c.args.body.now c.loop-item.item-index c.item-item.result c.loop-item.trail.items c.in_err-left.field-0.0 c.loop-item-test.true c.item-item.is c.loop-item.invariant.same h))

pub room_behind-loop-item-preserved : goal.room_behind-loop-item-preserved
room_behind-loop-item-preserved t c = record {
  same = c.in_ok-left.ensures.same ∙ c.loop-item.invariant.same;
  so_far = λ answer later.
      c.loop-item.invariant.so_far answer (next_leaves c.args.hierarchy.now.depth c.args.hierarchy.now.models c.args.trail.now.items c.loop-item.left c.in_ok-left.left c.args.body.now c.loop-item.item-index c.item-item.result c.loop-item.trail.items answer c.loop-item-test.true c.item-item.is c.loop-item.invariant.same c.in_ok-left.ensures.left later);
}

pub room_behind-returns-clause-left : goal.room_behind-returns-clause-left
room_behind-returns-clause-left t c =
    c.loop-item.invariant.so_far (Ok c.loop-item.left) (none_left c.args.hierarchy.now.depth c.args.hierarchy.now.models c.args.trail.now.items c.loop-item.left c.args.body.now c.loop-item.item-index c.loop-item-test.false)

pub room_behind_item-returns-in-Gate-clause-left : goal.room_behind_item-returns-in-Gate-clause-left
room_behind_item-returns-in-Gate-clause-left t c =
    line_passed c.args.hierarchy.now.depth c.args.hierarchy.now.models c.args.trail.now.items c.args.room c.args.item.now c.one_less.result c.in-Gate.is c.one_less.ensures.less c.one_less.ensures.by_one

pub room_behind_item-returns-in-Gate-clause-fault : goal.room_behind_item-returns-in-Gate-clause-fault
room_behind_item-returns-in-Gate-clause-fault t c = grind (arith, line_fault c.args.hierarchy.now.depth c.args.hierarchy.now.models c.args.trail.now.items c.args.room c.args.item.now c.one_less.result c.in-Gate.is c.one_less.ensures.fault)

pub room_behind_part-returns-in_err-model-clause-fault : goal.room_behind_part-returns-in_err-model-clause-fault
room_behind_part-returns-in_err-model-clause-fault t c =
    handed_on _ c.from_residual.result _ c.from_residual.ensures.1 c.in_err-model.ensures.fault
    (λ e. part_refused c.args.hierarchy.now.depth c.args.hierarchy.now.models c.args.trail.now.items c.args.room c.args.part.now c.in_err-model.field-0.0 (ap (λ ts. entered_below c.args.hierarchy.now.depth c.args.hierarchy.now.models ts c.args.part.now) (sym c.deref.ensures.value) ∙ e))

pub room_behind_part-returns-in_err-inside-clause-fault : goal.room_behind_part-returns-in_err-inside-clause-fault
room_behind_part-returns-in_err-inside-clause-fault t c =
    handed_on _ c.from_residual-in_err-inside.result _ c.from_residual-in_err-inside.ensures.1 (inr c.in_err-inside.ensures.fault)
    (λ h. rw h.1 (no_part c.args.hierarchy.now.depth c.args.hierarchy.now.models c.args.trail.now.items c.args.room c.args.part.now c.in_ok-model.model (ap (λ ts. entered_below c.args.hierarchy.now.depth c.args.hierarchy.now.models ts c.args.part.now) (sym c.deref.ensures.value) ∙ c.in_ok-model.ensures.model) h.0))

pub room_behind_part-returns-in_err-left-clause-fault : goal.room_behind_part-returns-in_err-left-clause-fault
room_behind_part-returns-in_err-left-clause-fault t c =
    let entered = ap (λ ts. entered_below c.args.hierarchy.now.depth c.args.hierarchy.now.models ts c.args.part.now) (sym c.deref.ensures.value) ∙ c.in_ok-model.ensures.model in
    let body = c.items-body.ensures ∙ ap (λ (m : BlifModel). m.body) c.model.ensures in
    handed_on _ c.from_residual-in_err-left.result _ c.from_residual-in_err-left.ensures.1 c.in_err-left.ensures.fault
    (λ h. part_fails c.args.hierarchy.now.depth c.args.hierarchy.now.models c.args.trail.now.items c.args.room c.args.part.now c.in_ok-model.model c.in_err-left.field-0.0 entered c.in_ok-inside.ensures.less (inside_is c.args.hierarchy.now.depth c.args.hierarchy.now.models c.args.trail.now.items c.args.room c.in_ok-inside.inside c.in_ok-model.model c.push.new.self.items c.items-body.result.now (Err c.in_err-left.field-0.0) c.in_ok-push.ensures.items body c.in_ok-inside.ensures.by_one h))

pub room_behind_part-returns-clause-left : goal.room_behind_part-returns-clause-left
room_behind_part-returns-clause-left t c =
    let entered = ap (λ ts. entered_below c.args.hierarchy.now.depth c.args.hierarchy.now.models ts c.args.part.now) (sym c.deref.ensures.value) ∙ c.in_ok-model.ensures.model in
    let body = c.items-body.ensures ∙ ap (λ (m : BlifModel). m.body) c.model.ensures in
    part_leaves c.args.hierarchy.now.depth c.args.hierarchy.now.models c.args.trail.now.items c.args.room c.in_ok-left.left c.args.part.now c.in_ok-model.model entered c.in_ok-inside.ensures.less (inside_is c.args.hierarchy.now.depth c.args.hierarchy.now.models c.args.trail.now.items c.args.room c.in_ok-inside.inside c.in_ok-model.model c.push.new.self.items c.items-body.result.now (Ok c.in_ok-left.left) c.in_ok-push.ensures.items body c.in_ok-inside.ensures.by_one c.in_ok-left.ensures.left)
