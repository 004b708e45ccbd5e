-- The diagram of a cover over its pins, and the size of a cover.
use Rattle.std.specs.Prelude.{◌≡◌, ℕ, Bool, List, length}
use Rattle.bdd_store.specs.declared.node.Node.{Node}
use Rattle.bdd_store.specs.Arena.{Arena, den, IsNodeOf, IsBranching}
use Rattle.bdd_store.specs.Subfunctions.{nodes}
use Rattle.bdd_store.specs.Growth.{IsPartAt}
use Rattle.cover_logic.specs.Covers.{Cover, value}

-- what contracts see of a cover's diagram: a store over its pins, the node of its function, and how many pins
pub record Local : Type 0 where
  pub store : Arena
  pub top : Node
  pub pins : ℕ

-- the function of its top node
abbrev pub function : Local → List Bool → Bool
function l = den l.store l.top

-- the variables are the pins, and each node or its complement stands for the function with some first pins fixed
pub record IsLocal (l : Local) : Type 0 where
  pub pins : l.pins ≡ l.store.vars
  pub node : IsNodeOf l.store l.top
  pub parts : (n : Node) → IsNodeOf l.store n → IsBranching n → IsPartAt l.store.vars (function l) l.store n

-- it has the cover's pins and the cover's function
pub record IsDiagramOf (l : Local) (cover : Cover) : Type 0 where
  pub pins : l.pins ≡ cover.pins
  pub function : (bits : List Bool) → length bits ≡ cover.pins → function l bits ≡ value cover bits

-- how many functions the cover's function gives with its first pins fixed, without the constants
abbrev pub size : Cover → ℕ
size cover = nodes cover.pins (value cover)

abbrev pub local_size : Local → ℕ
local_size l = nodes l.pins (function l)
