-- What a node's branch is, as code finds it.
use Rattle.std.specs.Prelude.{◌≡◌, ℕ, ◌<◌, ◌≤◌, Bool, false, List, length, if◌then◌else◌}
use Rattle.std.specs.List.{slice_index_or}
use Rattle.bdd_store.specs.declared.node.Node.{Node}
use Rattle.bdd_store.specs.declared.node.Entry.{Entry}
use Rattle.bdd_store.specs.Arena.{index, node_value, top_at}

-- an entry's branch where the bit at its variable is this
abbrev pub branch : Entry → Bool → Node
branch e bit = if bit then e.hi else e.lo

-- r is the branch of n for this value of the bit at its variable
pub record IsBranch (vars : ℕ) (es : List Entry) (n : Node) (bit : Bool) (r : Node) : Type 0 where
  pub node : index r ≤ length es
  pub earlier : index r < index n
  pub lower : top_at vars es (index n) < top_at vars es (index r)
  pub within : top_at vars es (index n) < vars
  pub function : (bits : List Bool) → slice_index_or bits (top_at vars es (index n)) false ≡ bit → node_value es n bits ≡ node_value es r bits
