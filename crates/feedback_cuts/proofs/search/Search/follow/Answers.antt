use Rattle.std.proofs.Common.{◌≡◌, ℕ, get_or, sym, ◌∙◌, arith, true≢false}
use Rattle.feedback_cuts.proofs.Common.{get_or_default}
use Rattle.feedback_cuts.proofs.SearchLemmas.{follows_push, follows_skip}
use Rattle.feedback_cuts.proofs.search.Search.follow.Goals as goal
use Rattle.feedback_cuts.proofs.search.Search.follow.Goals.{then-is_new+in_ok-push, else-is_new}

pub loop-gate-preserved : goal.loop-gate-preserved
loop-gate-preserved c =
    let row = c.args.row.now in
    let k = c.loop-gate.gate-index in
    let n = get_or row k 0 in
    let i = c.loop-gate.invariant in
    let size = i.size in
    let is : (d : ℕ) → get_or row k d ≡ n = λ d. get_or_default row k d 0 c.loop-gate-test.true in
    elim c.if-is_new.branch [
      | then-is_new+in_ok-push w ↦
          let within = c.requires.row k 0 c.loop-gate-test.true in
          rw (w.self-is, w.in_ok-push.ensures.items)
          (follows_push c.args.levels.now c.args.high c.args.goal row c.args.self.now.marks.items c.args.self.now.found.items c.loop-gate.self.marks.items c.loop-gate.self.found.items k n is i
          c.loop-gate-test.true (omega (arith, c.requires.marks)) (rw c.deref.ensures.value at (c.is_new.ensures.0 w.if-is_new.true)))
      | else-is_new w ↦
          rw w.self-is
          (follows_skip c.args.levels.now c.args.high c.args.goal row c.args.self.now.marks.items c.args.self.now.found.items c.loop-gate.self.marks.items c.loop-gate.self.found.items k n is i
          (λ new. true≢false (sym (c.is_new.ensures.1 (rw c.deref.ensures.value new)) ∙ w.if-is_new.false)))
    ]
