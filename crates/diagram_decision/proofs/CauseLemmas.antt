-- Why a decision finds the diagrams full.
use Rattle.std.proofs.Common.{◌≡◌, inl, inr, ◌≤◌, ℕ, Err, Result, length, subst, ◌∙◌, arith}
use Rattle.diagram_decision.proofs.Common.{StoreFault, Arena, AddsWithin, adds_more, IsWide, Parts, CareSet, columns, decision_cost, IsLaid, IsFullFor, HasCoverOver}
use Rattle.bdd_store.specs.declared.fault.StoreFault.TheVariants.{Full}
use Rattle.dual_rail.proofs.WidthLemmas.{IsWide-some}
use Rattle.diagram_decision.specs.Causes.{IsStoreFor, IsOutOfNodes}
use Rattle.diagram_decision.specs.Enough.{IsBelowEnough}
use Rattle.diagram_decision.proofs.EnoughLemmas.{costs-enough, over-cover}

-- after so many functions of the decision
pub full_for : {T : Type 0} {r : Result T StoreFault} {old new : Arena} {net : Parts} {care : CareSet} {n : ℕ} → IsStoreFor new net old.limit → n ≤ decision_cost net care →
    AddsWithin r old new (HasCoverOver net care) (IsWide (columns net) (IsLaid net care)) n → r ≡ Err Full → IsFullFor old new net care
full_for store less adds is_full = record { store = store; cause = λ w wide. (adds_more less adds).full w wide is_full }

-- some w is wide, so there is a cause
pub out_of_nodes : {old new : Arena} {net : Parts} {care : CareSet} {limit : ℕ} → old.limit ≡ limit → IsFullFor old new net care → IsOutOfNodes new net care limit
out_of_nodes {old} {new} {net} {care} most is =
    let store : IsStoreFor new net old.limit = is.store in
    record {
      store = record { variables = store.variables; most = store.most ∙ most };
      cause = elim (is.cause _ (IsWide-some (columns net) (IsLaid net care))) [
        | inl over ↦ inr (subst (HasCoverOver net care) most over)
        | inr past ↦ inl (past.full ∙ store.most ∙ most)
      ];
    }

-- and where nothing was before, the limit is below what is enough
pub below_enough : {old new : Arena} {net : Parts} {care : CareSet} {limit : ℕ} → old.limit ≡ limit → length old.entries ≡ 0 → IsFullFor old new net care → IsBelowEnough net care limit
below_enough {old} {new} {net} {care} {limit} most none is = grind (arith, over-cover net care, costs-enough net care)
