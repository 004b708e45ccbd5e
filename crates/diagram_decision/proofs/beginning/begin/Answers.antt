use Rattle.std.proofs.Common.{◌≡◌, ◌∙◌, ◌+◌, ◌*◌, true, false, None, sym, arith}
use Rattle.diagram_decision.proofs.PartLemmas.{Tells-kept}
use Rattle.diagram_decision.proofs.Common.{KeepsNodes, within_only, within_one, within_moved, within_more, within_answered, within_refused, columns, initial_refusal, invariant_effort, GrowsInDecision, AreColumns-kept}
use Rattle.bdd_store.proofs.GrowthLemmas.{KeepsNodes-chain}
use Rattle.diagram_decision.proofs.DecisionLemmas.{decision-then, starts-fit, outside-fits}
use Rattle.diagram_decision.proofs.VerdictLemmas.{refused-empty, empty-is}
use Rattle.diagram_decision.proofs.beginning.begin.Goals as goal
use Rattle.diagram_decision.proofs.beginning.begin.Goals.{After-starts_on, After-initial_refusal, After-care_on}

pub starts_on-requires-clause-columns : goal.starts_on-requires-clause-columns
starts_on-requires-clause-columns c = rw c.net.ensures.net (AreColumns-kept c.inside_on.ensures.grows.keeps c.requires.columns)

pub initial_refusal-requires-clause-inside : goal.initial_refusal-requires-clause-inside
initial_refusal-requires-clause-inside c = Tells-kept c.starts_on.ensures.grows.keeps c.in_ok-inside.ensures.told

-- what stays when the initial states are asked for
kept : (c : After-initial_refusal) → KeepsNodes c.inside_on.new.d c.initial_refusal.new.d
kept c = KeepsNodes-chain c.starts_on.ensures.grows.keeps c.initial_refusal.ensures.grows.keeps

pub care_on-requires-clause-columns : goal.care_on-requires-clause-columns
care_on-requires-clause-columns c =
    AreColumns-kept (KeepsNodes-chain c.inside_on.ensures.grows.keeps (kept (goal.at.care_on-requires-clause-columns c).After-initial_refusal)) c.requires.columns

pub care_on-requires-clause-inside : goal.care_on-requires-clause-inside
care_on-requires-clause-inside c = Tells-kept (kept (goal.at.care_on-requires-clause-inside c).After-initial_refusal) c.in_ok-inside.ensures.told

set-vars : (c : After-care_on) → c.care_on.new.d.vars ≡ columns c.args.question.now.net
set-vars c = c.care_on.ensures.grows.keeps.vars ∙ c.initial_refusal.ensures.grows.keeps.vars ∙ c.starts_on.ensures.grows.keeps.vars ∙ c.inside_on.ensures.grows.keeps.vars ∙ c.requires.vars

initial-none : (c : After-care_on) → initial_refusal c.args.question.now.net c.args.question.now.care ≡ None
initial-none c = sym c.in_ok-refusal.ensures.refusal ∙ c.in_default.is

pub returns-then-is_never-clause-start : goal.returns-then-is_never-clause-start
returns-then-is_never-clause-start g what =
    let c : After-care_on = (goal.at.returns-then-is_never-clause-start g).After-care_on in
    let q = g.args.question.now in
    refused-empty q.net q.care what (initial-none c) (empty-is q.net q.care true (sym g.if-is_never.true ∙ g.is_never.ensures.told q.net _ (set-vars c) g.in_ok-set.ensures.told))

pub returns-clause-start : goal.returns-clause-start
returns-clause-start g =
    let c : After-care_on = (goal.at.returns-clause-start g).After-care_on in
    let q = g.args.question.now in
    record {
      told = g.in_ok-set.ensures.told;
      initial = initial-none c;
      some = empty-is q.net q.care false (sym g.if-is_never.false ∙ g.is_never.ensures.told q.net _ (set-vars c) g.in_ok-set.ensures.told);
    }

-- ---- what it does to the diagrams, call by call

after-starts : (c : After-starts_on) → GrowsInDecision c.starts_on.result c.args.d.now c.starts_on.new.d c.args.question.now.net c.args.question.now.care (2 * invariant_effort c.args.question.now.care + columns c.args.question.now.net)
after-starts c =
    let starts = rw c.net.ensures.net at c.starts_on.ensures.grows in
    let vars = c.inside_on.ensures.grows.keeps.vars ∙ c.requires.vars in
    decision-then c.inside_on.ensures.grows (within_only (within_moved (λ w wide. starts-fit vars wide) starts))

-- permitted states outside of the invariant
after-refusal : (c : After-initial_refusal) → GrowsInDecision c.starts_on.result c.args.d.now c.starts_on.new.d c.args.question.now.net c.args.question.now.care (2 * invariant_effort c.args.question.now.care + columns c.args.question.now.net) →
    GrowsInDecision c.initial_refusal.result c.args.d.now c.initial_refusal.new.d c.args.question.now.net c.args.question.now.care (2 * invariant_effort c.args.question.now.care + columns c.args.question.now.net + 1)
after-refusal c before =
    let permitted = rw c.net.ensures.net at c.in_ok-permitted.ensures.starts in
    let inside = Tells-kept c.starts_on.ensures.grows.keeps c.in_ok-inside.ensures.told in
    decision-then before (within_only (within_one (λ w wide. outside-fits c.starts_on.new.d c.in_ok-permitted.permitted c.in_ok-inside.inside (before.keeps.vars ∙ c.requires.vars) permitted inside wide) c.initial_refusal.ensures.grows))

pub returns-in_err-inside-clause-grows : goal.returns-in_err-inside-clause-grows
returns-in_err-inside-clause-grows c = within_more (omega arith) (within_refused c.in_err-inside.was c.from_residual.ensures.1 c.inside_on.ensures.grows)

pub returns-in_err-permitted-clause-grows : goal.returns-in_err-permitted-clause-grows
returns-in_err-permitted-clause-grows g =
    within_more (omega arith) (within_refused g.in_err-permitted.was g.from_residual-in_err-permitted.ensures.1 (after-starts (goal.at.returns-in_err-permitted-clause-grows g).After-starts_on))

pub returns-in_err-refusal-clause-grows : goal.returns-in_err-refusal-clause-grows
returns-in_err-refusal-clause-grows g =
    let at = goal.at.returns-in_err-refusal-clause-grows g in
    within_more (omega arith) (within_refused g.in_err-refusal.was g.from_residual-in_err-refusal.ensures.1 (after-refusal at.After-initial_refusal (after-starts at.After-starts_on)))

pub returns-in-Some-clause-grows : goal.returns-in-Some-clause-grows
returns-in-Some-clause-grows g =
    let at = goal.at.returns-in-Some-clause-grows g in
    within_more (omega arith) (within_answered (after-refusal at.After-initial_refusal (after-starts at.After-starts_on)))

pub returns-in_err-set-clause-grows : goal.returns-in_err-set-clause-grows
returns-in_err-set-clause-grows g =
    let at = goal.at.returns-in_err-set-clause-grows g in
    within_refused g.in_err-set.was g.from_residual-in_err-set.ensures.1 (decision-then (after-refusal at.After-initial_refusal (after-starts at.After-starts_on)) g.care_on.ensures.grows)

pub returns-then-is_never-clause-grows : goal.returns-then-is_never-clause-grows
returns-then-is_never-clause-grows g =
    let at = goal.at.returns-then-is_never-clause-grows g in
    within_answered (decision-then (after-refusal at.After-initial_refusal (after-starts at.After-starts_on)) g.care_on.ensures.grows)

pub returns-clause-grows : goal.returns-clause-grows
returns-clause-grows g =
    let at = goal.at.returns-clause-grows g in
    within_answered (decision-then (after-refusal at.After-initial_refusal (after-starts at.After-starts_on)) g.care_on.ensures.grows)
