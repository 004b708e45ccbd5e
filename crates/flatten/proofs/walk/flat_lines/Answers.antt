use Rattle.std.proofs.Common.{ap, ◌∙◌, arith, length, length-append, ◌∷◌, []}
use Rattle.flatten.proofs.Common.{model_at, flat_lines}
use Rattle.flatten.proofs.Printable.{printed_begun}
use Rattle.flatten.proofs.Stepping.{walking_start}
use Rattle.cyc_base.proofs.ListLemmas.{All-but_last}
use Rattle.flatten.specs.Printable.{IsPrintedLevel}
use Rattle.flatten.proofs.walk.flat_lines.Goals as goal

pub loop-level-init : goal.loop-level-init
loop-level-init c = grind (arith, walking_start c.args.hierarchy.now.depth c.args.hierarchy.now.models c.args.top c.args.limit _ c.requires.top c.in_ok-walk.ensures, printed_begun c.args.top c.args.limit c.in_ok-walk.walk c.in_ok-walk.ensures)

pub loop-level-preserved : goal.loop-level-preserved
loop-level-preserved c =
    let top = (model_at c.args.hierarchy.now.models c.args.top).name in
    let answer = flat_lines c.args.hierarchy.now.depth c.args.limit c.args.hierarchy.now.models c.args.top in
    let w = rw c.in-Some.ensures.items at c.loop-level.invariant.walks in
    let p = All-but_last IsPrintedLevel c.pop.new.self.items c.in-Some.level (rw c.in-Some.ensures.items at c.loop-level.invariant.printed.levels) in
    grind arith

pub loop-level-smaller : goal.loop-level-smaller
loop-level-smaller c =
    let top = (model_at c.args.hierarchy.now.models c.args.top).name in
    let answer = flat_lines c.args.hierarchy.now.depth c.args.limit c.args.hierarchy.now.models c.args.top in
    let w = rw c.in-Some.ensures.items at c.loop-level.invariant.walks in
    let h = (c.in_ok-step.ensures.on top answer w).1 in
    let n = ap length c.in-Some.ensures.items ∙ length-append c.pop.new.self.items (c.in-Some.level ∷ []) in
    omega (arith, h, n)

pub step-requires : goal.step-requires
step-requires c =
    let top = (model_at c.args.hierarchy.now.models c.args.top).name in
    let w = rw c.in-Some.ensures.items at c.loop-level.invariant.walks in
    record { goes = (top, (c.requires.lines.0, rw c.requires.lines.1 at w)) }
