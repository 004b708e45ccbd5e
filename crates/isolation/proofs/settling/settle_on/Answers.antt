use Rattle.std.proofs.Common.{◌≡◌, ◌∙◌, ◌+◌, ◌*◌, ◌<◌, ℕ, ap, length, sym, subst, arith}
use Rattle.isolation.proofs.Common.{AddsWithin, IsSolvedNetlist, IsWide, IsLaid, Parts, first_gate}
use Rattle.bdd_store.proofs.GrowthLemmas.{adds_then, adds_moved, adds_more, adds_caused, adds_refused}
use Rattle.loops.specs.Looped.{IsLooped}
use Rattle.fixpoint.specs.Working.{HasLargeCover, effort}
use Rattle.isolation.specs.Settling.{settling_cost}
use Rattle.isolation.proofs.SettlingLemmas.{handed-out}
use Rattle.isolation.proofs.WidthLemmas.{solved-is, solution-adds}
use Rattle.isolation.proofs.settling.settle_on.Goals as goal
use Rattle.isolation.proofs.settling.settle_on.Goals.{After-solve, After-solved-2-1}

-- the netlist that is handed out has these blocks and cut wires
are-looped : (c : After-solve) → IsLooped (record { net = c.net-net.result.now; blocks = c.blocks-blocks.result.now; cut = c.cut.result.now })
are-looped c = handed-out c.args.looped.now _ _ _ c.net-net.ensures.net c.blocks-blocks.ensures.blocks c.cut.ensures.cut c.cut.ensures.looped

vars-are : (c : After-solve) → c.args.d.now.vars ≡ first_gate c.net-net.result.now
vars-are c = c.requires.vars ∙ ap first_gate (sym c.net-net.ensures.net)

-- and is solved
abbrev solved : (c : After-solved-2-1) → IsSolvedNetlist c.solve.new.d c.blocks-blocks.result.now c.in_ok-solved.solved
solved c =
    let before : After-solve = (goal.at.After-solved-2-1 c).After-solve in
    let is = are-looped before in
    solved-is c.net-net.result.now c.blocks-blocks.result.now c.cut.result.now c.kept_columns.new.d c.solve.new.d c.in_ok-given.given.items c.in_ok-solved.solved c.laws.ensures.valid
    (subst (λ (net : Parts). 0 < length net.gates) (sym c.net-net.ensures.net) c.requires.some) is.blocks is.cut
    (c.kept_columns.ensures.vars ∙ vars-are before) c.in_ok-solved.ensures.roots.vars c.in_ok-given.ensures.columns c.in_ok-solved.ensures.solution

pub settled_sweeps-requires : goal.settled_sweeps-requires
settled_sweeps-requires c = solved c

pub returns-clause-settled : goal.returns-clause-settled
returns-clause-settled c = rw c.net-net.ensures.net at (c.settled_sweeps.ensures.settled (solved (goal.at.returns-clause-settled c).After-solved-2-1))

pub returns-clause-unknown : goal.returns-clause-unknown
returns-clause-unknown c = rw c.net-net.ensures.net at (c.settled_sweeps.ensures.unknown (solved (goal.at.returns-clause-unknown c).After-solved-2-1))

pub returns-clause-limit : goal.returns-clause-limit
returns-clause-limit c =
    (c.settled_sweeps.ensures.grows (solved (goal.at.returns-clause-limit c).After-solved-2-1)).keeps.limit ∙ c.in_ok-solved.ensures.roots.limit ∙ c.kept_columns.ensures.limit

-- the columns and the fixpoint
solution : (c : After-solve) → AddsWithin c.solve.result c.args.d.now c.solve.new.d (HasLargeCover c.net-net.result.now) (IsWide c.args.d.now.vars (IsLaid c.net-net.result.now))
    (2 + 10 * (length c.net-net.result.now.gates + 2) * effort c.net-net.result.now)
solution c =
    let is = are-looped c in
    solution-adds c.net-net.result.now c.blocks-blocks.result.now c.cut.result.now c.in_ok-given.given.items is.blocks is.cut (vars-are c) c.kept_columns.ensures.vars c.kept_columns.ensures.limit c.in_ok-given.ensures.columns
    c.kept_columns.ensures.adds c.solve.ensures.adds

pub returns-in_err-given-clause-adds : goal.returns-in_err-given-clause-adds
returns-in_err-given-clause-adds c = grind arith

pub returns-in_err-solved-clause-adds : goal.returns-in_err-solved-clause-adds
returns-in_err-solved-clause-adds c =
    rw (← c.net-net.ensures.net)
    (adds_more {n = settling_cost c.net-net.result.now} (omega arith) (adds_refused c.in_err-solved.was c.from_residual-in_err-solved.ensures.1 (solution (goal.at.returns-in_err-solved-clause-adds c).After-solve)))

pub returns-clause-adds : goal.returns-clause-adds
returns-clause-adds c =
    rw (← c.net-net.ensures.net)
    (adds_more {n = settling_cost c.net-net.result.now} (omega arith)
    (adds_then (c.in_ok-solved.ensures.roots.limit ∙ c.kept_columns.ensures.limit) (solution (goal.at.returns-clause-adds c).After-solve)
    (adds_caused (λ (none : ⊥). absurd none)
    (adds_moved (λ w wide. subst (λ (n : ℕ). IsWide n (IsLaid c.net-net.result.now) w) (sym (c.in_ok-solved.ensures.roots.vars ∙ c.kept_columns.ensures.vars)) wide)
    (c.settled_sweeps.ensures.grows (solved (goal.at.returns-clause-adds c).After-solved-2-1)).adds))))
