-- The tasks of a depth-first search that are open, the last of which is done next.
use Rattle.std.specs.Prelude.{◌≡◌, ℕ, zero, suc, ◌+◌, ◌<◌, nat_eq, Bool, false, List, [], ◌∷◌, ◌++◌, length, fold, reverse, All, slice_index_or}
use Rattle.std.specs.List.{list_any, sum_by}
use Rattle.components.specs.Graphs.{successors}
use Rattle.aig_core.specs.declared.depth.NodeTask.{NodeTask}
use Rattle.aig_core.specs.declared.depth.NodeTask.TheVariants.{Visit, Place}
use Rattle.aig_core.specs.Depth.{placed}

abbrev pub visit : ℕ → NodeTask
visit n = Visit n

abbrev pub node_of : NodeTask → ℕ
node_of (Visit n) = n
node_of (Place n) = n

abbrev pub AreWithin : ℕ → List NodeTask → Type 0
AreWithin count tasks = All (λ task. node_of task < count) tasks

-- the nodes that are placed once a task is done, and once all are
abbrev pub done : List (List ℕ) → List ℕ → NodeTask → List ℕ
done graph before (Visit n) = placed graph (length graph) before n
done graph before (Place n) = before ++ n ∷ []

abbrev pub finished : List (List ℕ) → List ℕ → List NodeTask → List ℕ
finished graph before tasks = fold (done graph) before (reverse tasks)

-- at most so many tasks come of a visit that follows no walk further than so many nodes
unfoldable pub weight : List (List ℕ) → ℕ → ℕ → ℕ
weight graph zero n = 1
weight graph (suc depth) n = 2 + sum_by (weight graph depth) (successors graph n)

abbrev pub task_weight : List (List ℕ) → NodeTask → ℕ
task_weight graph (Visit n) = weight graph (length graph) n
task_weight graph (Place n) = 1

abbrev pub tasks_left : List (List ℕ) → List NodeTask → ℕ
tasks_left graph tasks = sum_by (task_weight graph) tasks

-- marks tell which nodes are placed
abbrev pub HasMarks : List ℕ → List Bool → Type 0
HasMarks nodes marks = (n : ℕ) → n < length marks → slice_index_or marks n false ≡ list_any (nat_eq n) nodes

-- a step leads to the same end, with fewer tasks
pub record Advances (graph : List (List ℕ)) (before after : List ℕ) (old new : List NodeTask) : Type 0 where
  pub end : finished graph after new ≡ finished graph before old
  pub less : tasks_left graph new < tasks_left graph old
  pub within : AreWithin (length graph) new
