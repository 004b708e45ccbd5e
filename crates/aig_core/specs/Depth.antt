-- Depth-first search of a graph that is the list of its nodes' successors.
use Rattle.std.specs.Prelude.{ℕ, zero, suc, ◌<◌, nat_eq, List, [], ◌∷◌, ◌++◌, length, fold, All, Contains, if◌then◌else◌}
use Rattle.std.specs.List.{list_any}
use Rattle.components.specs.Graphs.{successors}

-- Node n stands behind these nodes: where it isn't among them already, it follows its successors, each of which is put
-- behind them in turn. No walk is followed further than so many nodes.
unfoldable pub placed : List (List ℕ) → ℕ → List ℕ → ℕ → List ℕ
placed graph zero before n = before
placed graph (suc depth) before n =
    if list_any (nat_eq n) before then before
    else fold (placed graph depth) before (successors graph n) ++ n ∷ []

-- the nodes that are needed for these, each behind its successors: the postorder of a depth-first search. A walk without
-- a loop has at most all nodes
abbrev pub postorder : List (List ℕ) → List ℕ → List ℕ
postorder graph needed = fold (placed graph (length graph)) [] needed

-- a number for each node, which falls along edges
pub record HasRanks (graph : List (List ℕ)) : Type 0 where
  pub rank : ℕ → ℕ
  pub within : (a : ℕ) → a < length graph → rank a < length graph
  pub falls : (a b : ℕ) → a < length graph → Contains (successors graph a) b → rank b < rank a
  pub nodes : (a : ℕ) → a < length graph → All (λ b. b < length graph) (successors graph a)
