use Rattle.std.proofs.Common.{ℕ, sym, subst}
use Rattle.diagram_decision.proofs.Common.{IsLawful, within_only, within_moved, IsWide, Blocks, home_of, loops_by, IsLaid}
use Rattle.fixpoint.specs.Counts.{AreLoopsToCount, IsComparedIn, count_at}
use Rattle.diagram_decision.proofs.CountLemmas.{count-on-care}
use Rattle.diagram_decision.proofs.PartLemmas.{IfOk-both}
use Rattle.diagram_decision.proofs.SolutionLemmas.{compared-wide}
use Rattle.diagram_decision.proofs.counting.count_solved.Goals as goal
use Rattle.diagram_decision.proofs.counting.count_solved.Goals.{After-sweeps}

pub sweeps-requires-clause-loops : goal.sweeps-requires-clause-loops
sweeps-requires-clause-loops c =
    let q = c.args.question.now in
    let found = c.args.found.now in
    let is = c.blocks-2.ensures.is in
    subst (λ (b : Blocks). AreLoopsToCount c.args.d.now b found.set found.solved) (sym c.blocks-2.ensures.blocks)
    (c.solutions.ensures.count q.net q.blocks q.cut c.args.d.now c.requires.solved.points found.solved is.net is.blocks is.cut c.requires.solved.solution found.set)

pub returns-clause-counts : goal.returns-clause-counts
returns-clause-counts c =
    let q = c.args.question.now in
    let is = c.blocks-2.ensures.is in
    let solved = c.requires.solved in
    let set = c.args.found.now.set in
    let lawful : IsLawful c.args.d.now = subst IsLawful c.store.ensures c.laws.ensures in
    let counts = rw c.blocks-2.ensures.blocks at c.sweeps.ensures.counts in
    let sweeps = rw c.blocks-2.ensures.blocks at c.sweeps.ensures.sweeps in
    IfOk-both c.sweeps.result (λ found are least. record {
      width = are.width;
      loops = λ gate less looped.
          let one = least.least gate less looped in
          count-on-care q.net q.care (loops_by q.blocks q.cut) c.args.d.now solved.points set gate (count_at found (home_of q.blocks gate))
          lawful.sound solved.points_are solved.vars c.requires.set one.enough one.least;
      others = are.others;
    }) counts (sweeps q.net q.cut solved.points is.blocks is.cut solved.solution)

-- ---- what it does to the diagrams

-- what the comparison of sweeps works with
sweeps-wide : (c : After-sweeps) (w : ℕ) → IsWide c.args.d.now.vars (IsLaid c.args.question.now.net c.args.question.now.care) w →
    IsWide c.args.d.now.vars (IsComparedIn c.args.d.now c.args.found.now.set c.args.found.now.solved.loops) w
sweeps-wide c w wide =
    let q = c.args.question.now in
    let is = c.blocks-2.ensures.is in
    let solved = c.requires.solved in
    compared-wide q.net q.care c.args.d.now solved.vars solved.points solved.points_are
    q.blocks q.cut is.blocks is.cut c.args.found.now.set c.args.found.now.solved c.requires.set solved.solution.steps wide

pub returns-clause-grows : goal.returns-clause-grows
returns-clause-grows g =
    let c = (goal.at.returns-clause-grows g).After-sweeps in
    let grows = rw (c.blocks-2.ensures.blocks, c.blocks-2.ensures.is.blocks.homes) at c.sweeps.ensures.grows in
    within_only (within_moved (sweeps-wide c) grows)
