use Rattle.std.proofs.Common.{◌≡◌, ◌++◌, ap, sym, ◌∙◌, append-nil}
use Rattle.loops.specs.Numbered.{listed_loops}
use Rattle.explain_text.proofs.Common.{text_bytes, comes_at, counted_sweeps, loops_left, told_lines}
use Rattle.explain_text.proofs.LineLemmas.{all_told, one_more_told, told_on_care}
use Rattle.explain_text.proofs.lines.tell_loops.Goals as goal
use Rattle.explain_text.proofs.lines.tell_loops.Goals.{After-into_iter-listed-iterator}

-- the list goes over the loops of the counted netlist
listed : (c : After-into_iter-listed-iterator) → loops_left c.into_iter-listed-iterator.result ≡ listed_loops c.args.counted.now.net
listed c = ap loops_left c.into_iter-listed-iterator.ensures.into_iter_gives ∙ (rw c.looped-looped.ensures.looped at c.in_order-listed-items.ensures)

pub loop-listed-init : goal.loop-listed-init
loop-listed-init c = (tt, sym (append-nil _))

pub tell_loop-requires : goal.tell_loop-requires
tell_loop-requires c =
    (comes_at c.args.counted.now.net c.into_iter-listed-iterator.result c.loop-listed.listed-iterator c.next.new.self c.loop-listed.yielded c.in-Some.listed
    (listed (goal.at.tell_loop-requires c).After-into_iter-listed-iterator) c.loop-listed.yielded_by c.in-Some.ensures.steps).loop

pub loop-listed-preserved : goal.loop-listed-preserved
loop-listed-preserved c = (
  tt,
  one_more_told (told_lines c.args.counted.now.net (counted_sweeps c.args.counted.now)) c.args.counted.now.net c.into_iter-listed-iterator.result
      c.loop-listed.listed-iterator c.next.new.self c.loop-listed.yielded (listed (goal.at.loop-listed-preserved c).After-into_iter-listed-iterator)
      c.loop-listed.yielded_by c.in-Some.listed _ _ _ c.in-Some.ensures.steps c.loop-listed.invariant.1 c.in_ok-tell_loop.ensures,
)

pub returns-clause-told : goal.returns-clause-told
returns-clause-told c =
    all_told (told_lines c.args.counted.now.net (counted_sweeps c.args.counted.now)) c.args.counted.now.net c.into_iter-listed-iterator.result
    c.loop-listed.listed-iterator c.next.new.self c.loop-listed.yielded (listed (goal.at.returns-clause-told c).After-into_iter-listed-iterator)
    c.loop-listed.yielded_by _ _ c.in-None.ensures.steps.0 c.loop-listed.invariant.1

pub returns-clause-on_care : goal.returns-clause-on_care
returns-clause-on_care c care on_care =
    returns-clause-told c ∙ ap (λ text. text_bytes c.args.sink.now ++ text) (told_on_care c.args.counted.now care c.looped-looped.ensures.is on_care)
