use Rattle.std.proofs.Common.{◌≡◌, get_or, false, sym, ◌∙◌, true≢false, arith}
use Rattle.std.proofs.lemmas.List.{get_or_default}
use Rattle.netlist.specs.Netlists.{is_marked}
use Rattle.explanations.specs.declared.pins.Pin.TheVariants.{Known, Free}
use Rattle.explanations.proofs.SideLemmas.{free_pin, kept_free, kept_side, left_out}
use Rattle.explanations.proofs.sides.leave_out.Goals as goal

pub returns-then-is_free : goal.returns-then-is_free
returns-then-is_free c =
    let sides = c.args.sides.now in
    kept_free c.args.net.now (is_marked c.args.marks.now) c.args.cycle.now c.args.signal sides
    (get_or_default sides c.args.signal Free (Known false) c.requires.signal
    ∙ free_pin (get_or sides c.args.signal (Known false)) (sym c.is_free.ensures ∙ c.if-is_free.true))

pub returns-then-branch : goal.returns-then-branch
returns-then-branch c = grind (arith, left_out c.args.net.now (is_marked c.args.marks.now) c.args.cycle.now c.args.signal c.args.sides.now)

pub returns : goal.returns
returns c =
    let sides = c.args.sides.now in
    let side : get_or sides c.args.signal (Known false) ≡ get_or sides c.args.signal Free = get_or_default sides c.args.signal (Known false) Free c.requires.signal in
    rw side
    (kept_side c.args.net.now (is_marked c.args.marks.now) c.args.cycle.now c.args.signal sides
    (λ stay. true≢false (sym (c.in_ok-readers_stay.ensures.1 stay) ∙ c.if-branch.false)))
