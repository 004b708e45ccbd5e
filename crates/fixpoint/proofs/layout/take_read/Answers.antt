use Rattle.std.proofs.Common.{◌∙◌, ◌<◌, ◌≤◌, ◌++◌, ℕ, length, get_or, take, ap, arith}
use Rattle.fixpoint.proofs.Common.{Sig, first_signals}
use Rattle.fixpoint.proofs.OrderLemmas.{read-column, read-other}
use Rattle.fixpoint.proofs.layout.take_read.Goals as goal
use Rattle.fixpoint.proofs.layout.take_read.Goals.{then-pin-marks+in_ok-take_column, else-pin-marks}

pub loop-pin-preserved : goal.loop-pin-preserved
loop-pin-preserved c =
    let n : ℕ = length c.args.marks.now in
    let i : ℕ = c.loop-pin.pin-index in
    let pin : Sig = get_or c.args.pins.now i (record { 0 = 0 }) in
    let inv = c.loop-pin.invariant in
    elim c.if-pin-marks.branch [
      | then-pin-marks+in_ok-take_column w ↦
          let low : pin.0 < n = (let less = w.if-pin-marks.true in omega (arith, less, inv.width)) in
          record {
            width = ap length w.marks-is ∙ w.take_column.ensures.width ∙ inv.width;
            taken = λ from are. rw (w.columns-is, w.marks-is, read-column n c.args.pins.now i (record { 0 = 0 }) from c.loop-pin-test.true low)
                (w.in_ok-take_column.ensures.taken (from ++ first_signals n (take i c.args.pins.now)) (inv.taken from are));
          }
      | else-pin-marks w ↦
          let high : n ≤ pin.0 = (let past = w.if-pin-marks.false in omega (arith, past, inv.width)) in
          record {
            width = ap length w.marks-is ∙ inv.width;
            taken = λ from are. rw (w.columns-is, w.marks-is, read-other n c.args.pins.now i (record { 0 = 0 }) c.loop-pin-test.true high) (inv.taken from are);
          }
    ]
