-- What contracts see of a store of binary decision diagrams with marked nodes (Brace, Rudell and Bryant 1990): how
-- many variables and entries it may have, and its entries in order. A node's number is twice its index, and one more
-- where it has no mark: so 0 is false and 1 is true. The constants stand at the index 0, and the entry at position p at
-- the index p + 1. Beside them stand the roots, which are nodes under keys, and answers to choices, the last used first.
use Rattle.std.specs.Prelude.{◌≡◌, ◌≢◌, ℕ, zero, suc, ◌+◌, ◌-◌, ◌*◌, ◌/◌, ◌%◌, ◌≤◌, Bool, true, false, not, ◌&&◌, List, [], length, slice_get, Option, None, if◌then◌else◌, ◌==◌}
use Rattle.std.specs.Map.{lookup}
use Rattle.std.specs.List.{slice_index_or}
use Rattle.std.specs.Option.{option_map_or}
use Rattle.bdd_store.specs.declared.node.Node.{Node}
use Rattle.bdd_store.specs.declared.node.Entry.{Entry}
use Rattle.bdd_store.specs.declared.node.Choice.{Choice}

pub record Arena : Type 0 where
  pub vars : ℕ
  pub limit : ℕ
  pub entries : List Entry
  pub roots : List (Option Node)
  pub answers : List (Choice × Node)

-- no entries, no roots and no answers
abbrev pub empty : ℕ → ℕ → Arena
empty vars limit = record { vars = vars; limit = limit; entries = []; roots = []; answers = [] }

-- the same arena with these answers
abbrev pub with_answers : Arena → List (Choice × Node) → Arena
with_answers a answers = record { vars = a.vars; limit = a.limit; entries = a.entries; roots = a.roots; answers = answers }

-- the root under a key, if there is one
abbrev pub root_at : Arena → ℕ → Option Node
root_at a key = slice_index_or a.roots key None

-- the arenas differ in the root under this key alone, where the new one has this
pub record HasRoot (old new : Arena) (key : ℕ) (root : Option Node) : Type 0 where
  pub here : root_at new key ≡ root
  pub others : (k : ℕ) → k ≢ key → root_at new k ≡ root_at old k
  pub rest : new ≡ record { vars = old.vars; limit = old.limit; entries = old.entries; roots = new.roots; answers = old.answers }

-- whether two choices are between the same nodes
abbrev pub same_choice : Choice → Choice → Bool
same_choice x y = (x.a.number == y.a.number) && ((x.b.number == y.b.number) && (x.c.number == y.c.number))

-- the answer that is kept for a choice
abbrev pub answer_to : Arena → Choice → Option Node
answer_to a choice = lookup (same_choice choice) a.answers

abbrev pub index : Node → ℕ
index n = n.number / 2

abbrev pub is_marked : Node → Bool
is_marked n = (n.number % 2) == 0

-- the same node with a mark where it has none, and without one where it has one
abbrev pub complemented : Node → Node
complemented n = record { number = n.number + 1 - 2 * (n.number % 2) }

abbrev pub complemented_if : Bool → Node → Node
complemented_if mark n = if mark then complemented n else n

-- the constant of a truth value: false is true with a mark
abbrev pub constant : Bool → Node
constant b = record { number = if b then 1 else 0 }

-- a value, negated where there is a mark
abbrev pub flipped : Bool → Bool → Bool
flipped mark b = if mark then not b else b

-- the branch that the bits choose
abbrev pub chosen : Entry → List Bool → Node
chosen e bits = if slice_index_or bits e.var false then e.hi else e.lo

-- the value at an index after at most so many steps along branches, and true where they do not end
unfoldable pub den_within : ℕ → List Entry → ℕ → List Bool → Bool
den_within zero es i bits = true
den_within (suc k) es zero bits = true
den_within (suc k) es (suc p) bits = option_map_or (λ e. flipped (is_marked (chosen e bits)) (den_within k es (index (chosen e bits)) bits)) (slice_get es p) true

-- the value at an index, of a node without a mark: each step along a branch goes to a lower index
abbrev pub value_at : List Entry → ℕ → List Bool → Bool
value_at es i bits = den_within (suc i) es i bits

abbrev pub node_value : List Entry → Node → List Bool → Bool
node_value es n bits = flipped (is_marked n) (value_at es (index n) bits)

-- the denotation of a node: a constant's value, or the value of the high or the low branch by the bit at the
-- entry's variable, negated where the node has a mark
abbrev pub den : Arena → Node → List Bool → Bool
den a n bits = node_value a.entries n bits

-- the variable at an index, or `vars` for the constants
unfoldable pub top_at : ℕ → List Entry → ℕ → ℕ
top_at vars es zero = vars
top_at vars es (suc p) = option_map_or (λ e. e.var) (slice_get es p) vars

abbrev pub top_of : Arena → Node → ℕ
top_of a n = top_at a.vars a.entries (index n)

-- a constant, or a position that is taken
abbrev pub IsNodeOf : Arena → Node → Type 0
IsNodeOf a n = index n ≤ length a.entries

-- no constant
abbrev pub IsBranching : Node → Type 0
IsBranching n = 2 ≤ n.number

-- hi's value where the bit at var is 1, and lo's where it is 0 (Shannon's expansion)
abbrev pub choice : Arena → ℕ → Node → Node → List Bool → Bool
choice a var lo hi bits = if slice_index_or bits var false then den a hi bits else den a lo bits
