-- What a comparison costs, added up, and why it finds the diagrams full.
use Rattle.std.proofs.Common.{◌≡◌, inl, inr, ℕ, ◌+◌, ◌*◌, ◌<◌, ◌≤◌, List, Err, Result, length, subst, ◌∙◌, arith}
use Rattle.fixpoint.proofs.EffortLemmas.{effort-enough}
use Rattle.bdd_store.specs.declared.fault.StoreFault.{StoreFault}
use Rattle.bdd_store.specs.declared.fault.StoreFault.TheVariants.{Full}
use Rattle.equal.proofs.Common.{Arena, IsWide, Parts, CareSet, columns, Pair, IsLaidBy}
use Rattle.bdd_store.specs.Growth.{AddsWithin}
use Rattle.bdd_store.proofs.GrowthLemmas.{adds_more}
use Rattle.dual_rail.proofs.WidthLemmas.{IsWide-some}
use Rattle.fixpoint.specs.Working.{effort}
use Rattle.diagram_decision.specs.Causes.{HasCoverOver, IsOutOfNodes, IsStoreFor}
use Rattle.diagram_decision.specs.Costs.{assume_effort, invariant_effort}
use Rattle.diagram_decision.specs.Enough.{enough}
use Rattle.diagram_decision.proofs.EnoughLemmas.{large-effort, model-effort}
use Rattle.equal.specs.Comparisons.{comparison_cost, IsBelowEnoughFor, IsFullFor}

-- ---- the sum

-- the parts together cost no more than is enough
costs-enough : (net : Parts) (care : CareSet) (pairs : List Pair) (w : ℕ) → w * comparison_cost net care pairs ≤ enough net care w + 8 * w * length pairs
costs-enough net care pairs w = grind arith

-- ---- covers over the limit

cover-effort : (net : Parts) (care : CareSet) (limit : ℕ) → HasCoverOver net care limit → limit < effort net + (assume_effort care + invariant_effort care)
cover-effort net care limit is = grind (arith, large-effort net limit, model-effort care.assume limit, model-effort care.invariant limit)

over-enough : (net : Parts) (care : CareSet) (w limit : ℕ) → columns net + 1 ≤ w → HasCoverOver net care limit → limit < enough net care w
over-enough net care w limit wide is = grind (arith, effort-enough limit (effort net + (assume_effort care + invariant_effort care)) w, cover-effort net care limit is)

-- ---- why the diagrams are full

pub full_for : {T : Type 0} {r : Result T StoreFault} {old new : Arena} {order : List ℕ} {net : Parts} {care : CareSet} {pairs : List Pair} {n : ℕ} → IsStoreFor new net old.limit →
    n ≤ comparison_cost net care pairs → AddsWithin r old new (HasCoverOver net care) (IsWide (columns net) (IsLaidBy order net care)) n → r ≡ Err Full → IsFullFor old new order net care pairs
full_for store less adds is_full = record { store = store; cause = λ w wide. (adds_more less adds).full w wide is_full }

-- some w is wide, so there is a cause
pub out_of_nodes : {old new : Arena} {order : List ℕ} {net : Parts} {care : CareSet} {pairs : List Pair} {limit : ℕ} → old.limit ≡ limit → IsFullFor old new order net care pairs → IsOutOfNodes new net care limit
out_of_nodes {old} {new} {order} {net} {care} most is =
    let store : IsStoreFor new net old.limit = is.store in
    record {
      store = record { variables = store.variables; most = store.most ∙ most };
      cause = elim (is.cause _ (IsWide-some (columns net) (IsLaidBy order net care))) [
        | inl over ↦ inr (subst (HasCoverOver net care) most over)
        | inr past ↦ inl (past.full ∙ store.most ∙ most)
      ];
    }

-- and where nothing was before, the limit is below what is enough
pub below_enough : {old new : Arena} {order : List ℕ} {net : Parts} {care : CareSet} {pairs : List Pair} {limit : ℕ} → old.limit ≡ limit → length old.entries ≡ 0 → IsFullFor old new order net care pairs →
    IsBelowEnoughFor order net care pairs limit
below_enough {old} {new} {order} {net} {care} {pairs} {limit} most none is = grind (arith, over-enough net care, costs-enough net care pairs)
