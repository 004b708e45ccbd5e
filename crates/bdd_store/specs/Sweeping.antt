-- What a sweep leaves: the entries that a root reaches along branches, and the roots with their functions.
use Rattle.std.specs.Prelude.{◌≡◌, ◌↔◌, ◌⊎◌, ◌<◌, ℕ, suc, Bool, IsTrue, List, length, filter, Option, Some, None, IsSome, slice_get}
use Rattle.std.specs.List.{range_with_len, slice_index_or}
use Rattle.bdd_store.specs.declared.node.Node.{Node}
use Rattle.bdd_store.specs.declared.node.Entry.{Entry}
use Rattle.bdd_store.specs.Arena.{Arena, root_at, index, den, top_of}

-- the entry at p has a branch to the one at q
abbrev pub HasBranch : List Entry → ℕ → ℕ → Type 0
HasBranch es p q = (e : Entry) × (slice_get es p ≡ Some e) × ((index e.lo ≡ suc q) ⊎ (index e.hi ≡ suc q))

-- branches lead from the entry at p to another, in any number of steps
pub data LeadsTo (es : List Entry) (p : ℕ) : ℕ → Type 0 where
  here : LeadsTo es p p
  further : (q r : ℕ) → LeadsTo es p q → HasBranch es q r → LeadsTo es p r

-- branches lead from a root to the entry at p
pub record IsReached (roots : List (Option Node)) (es : List Entry) (p : ℕ) : Type 0 where
  pub key : ℕ
  pub node : Node
  pub first : ℕ
  pub root : slice_index_or roots key None ≡ Some node
  pub entry : index node ≡ suc first
  pub way : LeadsTo es first p

-- so many entries are reached
pub record HasReached (a : Arena) (count : ℕ) : Type 0 where
  pub is_reached : ℕ → Bool
  pub each : (p : ℕ) → p < length a.entries → IsTrue (is_reached p) ↔ IsReached a.roots a.entries p
  pub counted : count ≡ length (filter is_reached (range_with_len 0 (length a.entries)))

-- each entry is reached
abbrev pub AllReached : Arena → Type 0
AllReached a = (p : ℕ) → p < length a.entries → IsReached a.roots a.entries p

-- the roots have the same keys, and under each stands a node with the function and the variable of the one before
pub record KeepsRoots (old new : Arena) : Type 0 where
  pub vars : new.vars ≡ old.vars
  pub limit : new.limit ≡ old.limit
  pub keys : (key : ℕ) → IsSome (root_at new key) ↔ IsSome (root_at old key)
  pub function : (key : ℕ) (m n : Node) (bits : List Bool) → root_at old key ≡ Some m → root_at new key ≡ Some n → den new n bits ≡ den old m bits
  pub variable : (key : ℕ) (m n : Node) → root_at old key ≡ Some m → root_at new key ≡ Some n → top_of new n ≡ top_of old m
