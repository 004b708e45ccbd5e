-- What a decision costs, added up, and covers over the limit.
use Rattle.std.proofs.Common.{ℕ, ◌+◌, ◌*◌, ◌<◌, ◌≤◌, Option, length, arith}
use Rattle.diagram_decision.proofs.Common.{IsSomeAnd, option_map_or, IsWide, Parts, HasLargeCover, effort, CareModel, CareSet, columns, assume_effort, invariant_effort, decision_cost, IsLaid, HasCoverOver}
use Rattle.std.proofs.lemmas.List.Sums.{get_or-le-sum_by}
use Rattle.std.proofs.Math.Nat.{mul-le-mul_left}
use Rattle.fixpoint.proofs.EffortLemmas.{effort-enough, gates-effort}
use Rattle.diagram_decision.specs.Enough.{enough, in_all}

-- ---- the sum

sum-enough : (v latches gates assumed invariant effort effort_assumed effort_invariant : ℕ) →
    latches ≤ v → gates ≤ effort →
    2 + (2 * effort_invariant + v + 1 + (2 * effort_assumed + 1)) + 10 * (gates + 2) * effort + (2 * gates + (2 * latches + 2 * effort_invariant + 1)) + 6 * gates * (gates + 2)
    ≤ 16 * (gates + (assumed + invariant) + 2) * (effort + (effort_assumed + effort_invariant) + v + 4)
sum-enough v latches gates assumed invariant effort effort_assumed effort_invariant few less = grind (arith, mul-le-mul_left {m = gates} {n = effort} gates less)

-- the parts together cost no more than is enough
pub costs-enough : (net : Parts) (care : CareSet) (w : ℕ) → IsWide (columns net) (IsLaid net care) w → w * decision_cost net care ≤ enough net care w
costs-enough net care w wide =
    let assumed = option_map_or (λ model. length model.net.gates) care.assume 0 in
    let invariant = option_map_or (λ model. length model.net.gates) care.invariant 0 in
    let most : ℕ = 16 * (length net.gates + (assumed + invariant) + 2) * (effort net + (assume_effort care + invariant_effort care) + columns net + 4) in
    let all = mul-le-mul_left {m = decision_cost net care} {n = most} w
    (sum-enough (columns net) (length net.latches) (length net.gates) assumed invariant (effort net) (assume_effort care) (invariant_effort care) (omega arith) (gates-effort net.gates)) in
    omega (arith, all)

-- ---- covers over the limit

pub large-effort : (net : Parts) (limit : ℕ) → HasLargeCover net limit → limit < effort net
large-effort net limit is = grind (arith, get_or-le-sum_by)

pub model-effort : (o : Option CareModel) (limit : ℕ) → IsSomeAnd o (λ model. HasLargeCover model.net limit) → limit < option_map_or (λ model. effort model.net) o 0
model-effort o limit is = grind (arith, large-effort)

pub over-cover : (net : Parts) (care : CareSet) (w limit : ℕ) → IsWide (columns net) (IsLaid net care) w → HasCoverOver net care limit → limit < enough net care w
over-cover net care w limit wide is = grind (arith, effort-enough limit (in_all effort net care) w, large-effort net limit, model-effort care.assume limit, model-effort care.invariant limit)
