-- The answers to choices that are kept.
use Rattle.std.specs.Prelude.{◌≡◌, Bool, List, Contains}
use Rattle.bdd_store.specs.declared.node.Node.{Node}
use Rattle.bdd_store.specs.declared.node.Choice.{Choice}
use Rattle.bdd_store.specs.Arena.{Arena, den, IsNodeOf}
use Rattle.bdd_ops.specs.Operations.{if_then_else}

-- n is the node of the choice
pub record IsNodeOfChoice (s : Arena) (q : Choice) (n : Node) : Type 0 where
  pub a : IsNodeOf s q.a
  pub b : IsNodeOf s q.b
  pub c : IsNodeOf s q.c
  pub node : IsNodeOf s n
  pub function : (bits : List Bool) → den s n bits ≡ if_then_else s q.a q.b q.c bits

-- each answer that is kept is right
pub record AreRight (s : Arena) : Type 0 where
  pub each : (q : Choice) (n : Node) → Contains s.answers (q, n) → IsNodeOfChoice s q n
