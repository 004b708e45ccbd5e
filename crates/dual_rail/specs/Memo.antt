-- What was expanded, by the pin and the rows that are still live there.
use Rattle.std.specs.Prelude.{◌≡◌, ◌&&◌, nat_eq, Bool, List, Some}
use Rattle.std.specs.Cmp.Lexicographic.{pointwise}
use Rattle.std.specs.HashMap.{HashMap, get}
use Rattle.std.specs.declared.hash.FoldHasher.{FoldHasher}
use Rattle.std.specs.declared.hash.BuildHasherDefault.{BuildHasherDefault}
use Rattle.bdd_store.specs.declared.node.Node.{Node}
use Rattle.bdd_store.specs.Arena.{Arena}
use Rattle.cover_logic.specs.declared.row.Row.{Row}
use Rattle.dual_rail.specs.declared.live.Live.{Live}
use Rattle.dual_rail.specs.Expansion.{IsExpansion}

abbrev pub Memo : Type 0
Memo = HashMap Live Node (BuildHasherDefault FoldHasher)

abbrev pub live_eq : Live → Live → Bool
live_eq p q = nat_eq p.pin q.pin && pointwise nat_eq p.rows.items q.rows.items

-- what the memo has is the node of its remainder
pub record IsMemo (rows : List Row) (plane : Bool) (s : Arena) (memo : Memo) : Type 0 where
  pub each : (q : Live) (n : Node) → get live_eq memo q ≡ Some n → IsExpansion rows plane s q.pin q.rows.items n
