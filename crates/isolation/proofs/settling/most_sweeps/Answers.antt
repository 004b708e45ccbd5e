use Rattle.std.proofs.Common.{◌+◌, ◌*◌, ◌≤◌, ℕ, length, subst}
use Rattle.isolation.proofs.Common.{All, GrowsWithin, NoOtherCause, within_moved, within_refused, within_answered, IsWide, order, IsSolvedNetlist, IsLaid}
use Rattle.fixpoint.specs.Counts.{IsComparedIn}
use Rattle.isolation.proofs.SettlingLemmas.{sweeps-are}
use Rattle.isolation.proofs.WidthLemmas.{compared-wide}
use Rattle.isolation.proofs.settling.most_sweeps.Goals as goal
use Rattle.isolation.proofs.settling.most_sweeps.Goals.{After-sweeps}

pub sweeps-requires-clause-loops : goal.sweeps-requires-clause-loops
sweeps-requires-clause-loops c =
    c.solutions.ensures.count c.requires.net c.args.blocks.now c.requires.cut c.args.d.now c.requires.points c.args.solved.now c.requires.valid c.requires.blocks_are c.requires.cut_is c.requires.solution c.of.result

pub returns-clause-sweeps : goal.returns-clause-sweeps
returns-clause-sweeps c is =
    sweeps-are is.net c.args.blocks.now is.cut is.blocks_are is.cut_is is.points (order is.net) is.points_are c.args.d.now c.in_ok-counts.counts c.of.result c.greatest.result c.in_ok-counts.ensures.counts.width
    (c.in_ok-counts.ensures.sweeps is.net is.cut is.points is.blocks_are is.cut_is is.solution)
    (c.of.ensures.value c.args.d.now)
    (subst (All (λ n. n ≤ c.greatest.result)) c.items.ensures c.greatest.ensures)

grown : (c : After-sweeps) (is : IsSolvedNetlist c.args.d.now c.args.blocks.now c.args.solved.now) → GrowsWithin c.sweeps.result c.args.d.now c.sweeps.new.d NoOtherCause (IsWide c.args.d.now.vars (IsLaid is.net)) (6 * length is.net.gates * (length is.net.gates + 2))
grown c is =
    within_moved (λ w wide. compared-wide is.net is.points is.points_are is.some c.args.d.now c.args.blocks.now is.cut is.blocks_are is.cut_is c.of.result c.args.solved.now is.vars (c.of.ensures.value c.args.d.now) is.solution.steps wide)
    (subst (λ (n : ℕ). GrowsWithin c.sweeps.result c.args.d.now c.sweeps.new.d NoOtherCause (IsWide c.args.d.now.vars (IsComparedIn c.args.d.now c.of.result c.args.solved.now.loops)) (6 * n * (n + 2))) is.blocks_are.homes c.sweeps.ensures.grows)

pub returns-clause-grows : goal.returns-clause-grows
returns-clause-grows c is = within_answered (grown ((goal.at.returns-clause-grows c).After-sweeps) is)

pub returns-in_err-counts-clause-grows : goal.returns-in_err-counts-clause-grows
returns-in_err-counts-clause-grows c is = within_refused c.in_err-counts.was c.from_residual.ensures.1 (grown ((goal.at.returns-in_err-counts-clause-grows c).After-sweeps) is)
