-- Rails that are kept as roots of a store, and what stays while the store is swept.
use Rattle.std.specs.Prelude.{◌≡◌, ℕ, Bool, false, List, map, Option, Some, IsSome, unwrap_or}
use Rattle.bdd_store.specs.declared.node.Node.{Node}
use Rattle.bdd_store.specs.declared.root.Root.{Root}
use Rattle.bdd_store.specs.Arena.{Arena, root_at, constant, den, IsNodeOf}
use Rattle.cyc_base.specs.declared.trit.Trit.{Trit}
use Rattle.dual_rail.specs.declared.rail.Rails.{Rails}
use Rattle.dual_rail.specs.Rails.{values_of}
use Rattle.fixpoint.specs.declared.kept.KeptRails.{KeptRails}

-- the node under a root's key, or false where there is none
abbrev pub node_under : Arena → Root → Node
node_under a root = unwrap_or (root_at a root.key) (constant false)

-- the rails that are kept
abbrev pub rails_under : Arena → KeptRails → Rails
rails_under a kept = record { one = node_under a kept.one; zero = node_under a kept.zero }

-- the keys of both rails are in the map
pub record AreKept (a : Arena) (kept : KeptRails) : Type 0 where
  pub one : IsSome (root_at a kept.one.key)
  pub zero : IsSome (root_at a kept.zero.key)

-- a place has these rails, kept
pub record HoldsRails (a : Arena) (place : Option KeptRails) (rails : Rails) : Type 0 where
  pub kept : KeptRails
  pub is : place ≡ Some kept
  pub keys : AreKept a kept
  pub rails_are : rails_under a kept ≡ rails

-- the values that kept rails stand for at a vector
abbrev pub values_under : Arena → List KeptRails → List Bool → List Trit
values_under a kept bits = values_of a (map (rails_under a) kept) bits

-- under a key that had the node n there is a node with n's function
pub record IsRootStill (old new : Arena) (key : ℕ) (n : Node) : Type 0 where
  pub node : Node
  pub root : root_at new key ≡ Some node
  pub is_node : IsNodeOf new node
  pub function : (bits : List Bool) → den new node bits ≡ den old n bits

-- each root keeps its key and its function
pub record RootsStay (old new : Arena) : Type 0 where
  pub vars : new.vars ≡ old.vars
  pub limit : new.limit ≡ old.limit
  pub each : (key : ℕ) (n : Node) → root_at old key ≡ Some n → IsRootStill old new key n

-- the new arena has the same nodes, and the roots of the old one among its roots
pub record GainsRoots (old new : Arena) : Type 0 where
  pub vars : new.vars ≡ old.vars
  pub limit : new.limit ≡ old.limit
  pub entries : new.entries ≡ old.entries
  pub roots : (key : ℕ) (n : Node) → root_at old key ≡ Some n → root_at new key ≡ Some n
