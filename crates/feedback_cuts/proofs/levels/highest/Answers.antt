use Rattle.std.proofs.Common.{◌≤◌, arith, get_or}
use Rattle.feedback_cuts.proofs.Common.{Contains-get_or, get_or_default, level_at}
use Rattle.loops.proofs.Reading.{each_more}
use Rattle.feedback_cuts.proofs.levels.highest.Goals as goal

pub loop-gate-preserved : goal.loop-gate-preserved
loop-gate-preserved c =
    let i = c.loop-gate.invariant in
    record {
      above =
          each_more (λ z. level_at c.args.levels.now z ≤ c.max-level.result) c.args.gates.now c.loop-gate.gate-index _ (λ d. get_or_default c.args.gates.now c.loop-gate.gate-index d 0 c.loop-gate-test.true)
          (omega (arith, c.max-level.ensures)) (λ j d l. (let a = i.above j d l in omega (arith, c.max-level.ensures)));
      least = λ bound all.
          (let a = i.least bound all in
          let b = all (get_or c.args.gates.now c.loop-gate.gate-index 0) (Contains-get_or c.args.gates.now c.loop-gate.gate-index 0 c.loop-gate-test.true) in
          omega (arith, c.max-level.ensures));
    }
