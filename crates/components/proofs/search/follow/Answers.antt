use Rattle.std.proofs.Common.{◌<◌, length, arith, ap}
use Rattle.std.proofs.lemmas.Result.{on_ok_weaker}
use Rattle.components.specs.declared.search.Mark.TheVariants.{New, Open, Closed}
use Rattle.components.specs.Search.{state_of}
use Rattle.components.proofs.StepLemmas.{passed_advances, opened_advances, merged_advances, mark_read}
use Rattle.components.proofs.search.follow.Goals as goal

pub returns-then-target-as_slice : goal.returns-then-target-as_slice
returns-then-target-as_slice c = grind (arith, passed_advances c.args.graph.now (state_of c.args.search.now) c.args.target c.requires.following)

pub returns-in-New : goal.returns-in-New
returns-in-New c =
    let size = c.requires.following.sound.size in
    let len = ap (λ marks. length marks) c.as_slice.ensures.value in
    let within : c.args.target < length c.args.search.now.marks.items = omega (arith, len) in
    let new = mark_read c.args.search.now.marks.items c.args.target c.index.result.now New within c.index.ensures c.in-New.is in
    on_ok_weaker c.open.result
    (λ e. rw e (opened_advances c.args.graph.now (state_of c.args.search.now) c.args.target c.requires.following (omega (arith, size, within)) new))
    c.open.ensures

pub returns-in-Open : goal.returns-in-Open
returns-in-Open c =
    grind (arith, mark_read c.args.search.now.marks.items c.args.target c.index.result.now (Open c.in-Open.place), merged_advances c.args.graph.now (state_of c.args.search.now) c.args.target c.in-Open.place c.merge.new.groups.items c.requires.following)

pub returns-in-Closed : goal.returns-in-Closed
returns-in-Closed c = grind (arith, mark_read c.args.search.now.marks.items c.args.target c.index.result.now (Closed c.in-Closed.field-0), passed_advances c.args.graph.now (state_of c.args.search.now) c.args.target c.requires.following)
