use Rattle.std.proofs.Common.{◌≡◌, ◌+◌, ◌<◌, max, length, drop, ap, ◌∙◌, arith}
use Rattle.cyc_base.specs.Tildes.{leading_run, longest_run}
use Rattle.cyc_base.proofs.TildeLemmas.{leading_longest, run_goes_on, run_ends, max_is}
use Rattle.cyc_base.proofs.tildes.longest_run.Goals as goal
use Rattle.cyc_base.proofs.tildes.longest_run.Goals.{then-byte-eq126, else-byte-eq126}

pub loop-byte-preserved : goal.loop-byte-preserved
loop-byte-preserved c =
    let xs = c.bytes-byte-items.result.now in
    let i = c.loop-byte.byte-index in
    let l : i < length xs = omega arith in
    elim c.if-byte-eq126.branch [
      | then-byte-eq126 w ↦
          let r = run_goes_on xs i c.loop-byte.longest c.loop-byte.run _ l w.if-byte-eq126.true c.loop-byte.invariant.rest in
          let h = c.max-longest.ensures ∙ max_is c.loop-byte.longest c.if-byte-eq126.run in let e = w.run-is in let total : max (max c.loop-byte.longest c.if-byte-eq126.run) (max (c.if-byte-eq126.run + leading_run (drop (i + 1) xs)) (longest_run (drop (i + 1) xs))) ≡ longest_run c.args.name.now = rw e r in record { within = omega arith; longer = omega arith; rest = rw h total }
      | else-byte-eq126 w ↦
          let r = run_ends xs i c.loop-byte.longest c.loop-byte.run _ l w.if-byte-eq126.false c.loop-byte.invariant.longer c.loop-byte.invariant.rest in
          let h = c.max-longest.ensures ∙ max_is c.loop-byte.longest c.if-byte-eq126.run in let e = w.run-is in let total : max (max c.loop-byte.longest c.if-byte-eq126.run) (max (c.if-byte-eq126.run + leading_run (drop (i + 1) xs)) (longest_run (drop (i + 1) xs))) ≡ longest_run c.args.name.now = rw e r in record { within = omega arith; longer = omega arith; rest = rw h total }
    ]

pub loop-byte-init : goal.loop-byte-init
loop-byte-init c = grind (arith, leading_longest c.bytes-byte-items.result.now)
