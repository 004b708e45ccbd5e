use Rattle.std.proofs.Common.{◌<◌, length, ap, sym, ◌∙◌, arith, true≢false}
use Rattle.feedback_cuts.proofs.Common.{gate_at}
use Rattle.loops.proofs.RowLemmas.{same_element, same_source}
use Rattle.feedback_cuts.proofs.KeptLemmas.{no_source, one_more_source}
use Rattle.feedback_cuts.proofs.kept.sources_before.Goals as goal
use Rattle.feedback_cuts.proofs.kept.sources_before.Goals.{in-Some+then-is_free+in_ok-push, in-Some+else-is_free, in_default}

pub loop-pin-preserved : goal.loop-pin-preserved
loop-pin-preserved c =
    let pins = rw (c.gate.ensures.at, c.net.ensures.net) at c.items-pin-items.ensures in
    let within : c.loop-pin.pin-index < length (gate_at c.args.grouped.now.net c.args.gate).pins = omega (arith, c.loop-pin-test.true, ap length pins) in
    elim c.match-loop_source.branch [
      | in-Some+then-is_free+in_ok-push w ↦
          rw (w.row-is, w.in_ok-push.ensures)
          (one_more_source c.args.grouped.now.net c.args.grouped.now.blocks c.args.gate c.args.cut.now c.loop-pin.pin-index w.in-Some.source _ c.loop-pin.row c.net.ensures.grouped within
          (same_element _ _ c.loop-pin.pin-index _ pins c.loop-pin-test.true) w.in-Some.ensures.some (w.is_free.ensures.0 w.if-is_free.true) c.loop-pin.invariant)
      | in-Some+else-is_free w ↦
          rw w.row-is
          (no_source c.args.grouped.now.net c.args.grouped.now.blocks c.args.gate c.args.cut.now c.loop-pin.pin-index _ c.loop-pin.row
          (same_element _ _ c.loop-pin.pin-index _ pins c.loop-pin-test.true)
          (λ a other free.
          true≢false (sym (w.is_free.ensures.1 (rw (same_source c.args.grouped.now.net c.args.grouped.now.blocks c.args.gate _ a w.in-Some.source other w.in-Some.ensures.some) at free)) ∙ w.if-is_free.false))
          c.loop-pin.invariant)
      | in_default w ↦
          rw w.row-is
          (no_source c.args.grouped.now.net c.args.grouped.now.blocks c.args.gate c.args.cut.now c.loop-pin.pin-index _ c.loop-pin.row
          (same_element _ _ c.loop-pin.pin-index _ pins c.loop-pin-test.true) (λ a other free. w.in_default.ensures.none a other) c.loop-pin.invariant)
    ]
