-- How a sweep goes about it: what is reached is marked, by index, and each marked index gets a place in a new table.
use Rattle.std.specs.Prelude.{◌≡◌, ◌↔◌, ◌⊎◌, ◌+◌, ◌*◌, ◌%◌, ◌<◌, ◌≤◌, ℕ, suc, Bool, true, false, List, length, filter, Option, Some, None, option_map, slice_get}
use Rattle.std.specs.List.{range_with_len, slice_index_or}
use Rattle.cyc_base.specs.declared.limits.TheConstants.{MAX_NODES}
use Rattle.bdd_store.specs.declared.node.Node.{Node}
use Rattle.bdd_store.specs.declared.node.Entry.{Entry}
use Rattle.bdd_store.specs.Arena.{index}
use Rattle.bdd_store.specs.Soundness.{IsSound}
use Rattle.bdd_store.specs.Sweeping.{HasBranch, LeadsTo, IsReached}

-- the root under a key
abbrev pub root_in : List (Option Node) → ℕ → Option Node
root_in roots key = slice_index_or roots key None

abbrev pub is_marked_at : List Bool → ℕ → Bool
is_marked_at marks i = slice_index_or marks i false

-- what was marked still is
abbrev pub KeepsMarks : List Bool → List Bool → Type 0
KeepsMarks old new = (i : ℕ) → is_marked_at old i ≡ true → is_marked_at new i ≡ true

-- the roots are marked beside what was marked
pub record MarksRoots (roots : List (Option Node)) (old new : List Bool) : Type 0 where
  pub keeps : KeepsMarks old new
  pub each : (key : ℕ) (n : Node) → root_in roots key ≡ Some n → is_marked_at new (index n) ≡ true
  pub only : (i : ℕ) → is_marked_at new i ≡ true → (is_marked_at old i ≡ true) ⊎ ((key : ℕ) × (n : Node) × (root_in roots key ≡ Some n) × (index n ≡ i))

-- the branches of marked entries are marked
abbrev pub MarksBranches : List Entry → List Bool → Type 0
MarksBranches es marks = (p q : ℕ) → is_marked_at marks (suc p) ≡ true → HasBranch es p q → is_marked_at marks (suc q) ≡ true

-- the entries that marked ones lead to are marked
pub record MarksWays (es : List Entry) (old new : List Bool) : Type 0 where
  pub keeps : KeepsMarks old new
  pub closed : MarksBranches es new
  pub only : (q : ℕ) → is_marked_at new (suc q) ≡ true → (p : ℕ) × (is_marked_at old (suc p) ≡ true) × LeadsTo es p q

-- the constants and what is reached are marked
pub record AreMarks (roots : List (Option Node)) (es : List Entry) (marks : List Bool) : Type 0 where
  pub long : length marks ≡ length es + 1
  pub constants : is_marked_at marks 0 ≡ true
  pub entries : (p : ℕ) → (is_marked_at marks (suc p) ≡ true) ↔ IsReached roots es p

-- the constants are marked, and so are the branches of marked entries
pub record AreClosed (es : List Entry) (marks : List Bool) : Type 0 where
  pub constants : is_marked_at marks 0 ≡ true
  pub branches : MarksBranches es marks

-- the place of an index in the new table
abbrev pub place : List ℕ → ℕ → ℕ
place places i = slice_index_or places i 0

-- the node's index has a place, which is no greater than an index may be
pub record IsPlaced (places : List ℕ) (n : Node) : Type 0 where
  pub within : index n < length places
  pub small : place places (index n) ≤ MAX_NODES

abbrev pub moved_node : List ℕ → Node → Node
moved_node places n = record { number = 2 * place places (index n) + n.number % 2 }

-- the entry with its branches at their places
abbrev pub moved_entry : List ℕ → Entry → Entry
moved_entry places e = record { var = e.var; lo = moved_node places e.lo; hi = moved_node places e.hi }

-- the marked ones of the first n entries make up the table, each at its place
pub record AreMoved (es : List Entry) (marks : List Bool) (places : List ℕ) (table : List Entry) (n : ℕ) : Type 0 where
  pub sound : (vars : ℕ) → IsSound vars es → IsSound vars table
  pub constants : place places 0 ≡ 0
  pub each : (p : ℕ) (e : Entry) → p < n → slice_get es p ≡ Some e → is_marked_at marks (suc p) ≡ true → (q : ℕ) × (place places (suc p) ≡ suc q) × (slice_get table q ≡ Some (moved_entry places e))
  pub once : (i j : ℕ) → i ≤ n → j ≤ n → is_marked_at marks i ≡ true → is_marked_at marks j ≡ true → place places i ≡ place places j → i ≡ j
  pub from : (q : ℕ) → q < length table → (p : ℕ) × (p < n) × (is_marked_at marks (suc p) ≡ true) × (place places (suc p) ≡ suc q)
  pub count : length table ≡ length (filter (λ p. is_marked_at marks (suc p)) (range_with_len 0 n))

-- each root is at its place
abbrev pub AreMovedRoots : List ℕ → List (Option Node) → List (Option Node) → Type 0
AreMovedRoots places old new = (key : ℕ) → root_in new key ≡ option_map (moved_node places) (root_in old key)
