-- The denotation and the variable of a node, by its entry, and that later entries change neither.
use Rattle.std.proofs.Common.{◌≡◌, ◌↔◌, ℕ, zero, suc, ◌<◌, ◌≤◌, Bool, true, false, not, IsTrue, List, [], ◌∷◌, ◌++◌, length, get_or, slice_get, Some, refl, sym, ap, ◌∙◌, inl, inr, arith, true≢false}
use Rattle.bdd_store.proofs.Common.{slice_get-get_or, slice_get_within, cases_lt, Node, Entry, Arena, index, is_marked, complemented, complemented_if, flipped, value_at, node_value, den, top_at, top_of, chosen, IsNodeOf, branch}
use Rattle.bdd_store.specs.Arena.{den_within, constant, IsBranching}
use Rattle.bdd_store.proofs.NodeLemmas.{index-complemented, is_marked-complemented, flipped-not}

abbrev pub no_entry : Entry
no_entry = record { var = 0; lo = record { number = 0 }; hi = record { number = 0 } }

-- branches stand earlier
abbrev pub Earlier : List Entry → Type 0
Earlier es = (p : ℕ) (e : Entry) → slice_get es p ≡ Some e → (index e.lo ≤ p) × (index e.hi ≤ p)

pub branch_both : (P : Node → Type 0) (e : Entry) (bit : Bool) → P e.lo → P e.hi → P (branch e bit)
branch_both P e bit low high = grind arith

pub branch_low : (es : List Entry) → Earlier es → (p : ℕ) (e : Entry) (bit : Bool) → slice_get es p ≡ Some e → index (branch e bit) ≤ p
branch_low es early p e bit at = branch_both (λ n. index n ≤ p) e bit (early p e at).0 (early p e at).1

-- an entry there is, at each place
pub entry_at : (es : List Entry) (p : ℕ) → p < length es → (e : Entry) × (slice_get es p ≡ Some e)
entry_at [] p h = absurd (omega arith)
entry_at (x ∷ xs) p h = (get_or (x ∷ xs) p x, slice_get-get_or (x ∷ xs) p x h)

-- what holds at 0, and at an entry where it does at its branches, holds at each index
pub by_branches : (es : List Entry) (P : ℕ → Type 0) → P zero → ((p : ℕ) (e : Entry) → slice_get es p ≡ Some e → ((i : ℕ) → i ≤ p → P i) → P (suc p)) → (i : ℕ) → i ≤ length es → P i
by_branches es P first next i within = below (suc i) i (omega arith) within
  where
    below : (k i : ℕ) → i < k → i ≤ length es → P i
    below zero i less w = absurd (omega arith)
    below (suc k) zero less w = first
    below (suc k) (suc p) less w = let at = entry_at es p (omega arith) in next p at.0 at.1 (λ j low. below k j (omega arith) (omega arith))

-- more steps change nothing, nor do other entries after the index
den_within-alike : (es fs : List Entry) → Earlier es → (bits : List Bool) (k j i : ℕ) → i < k → i < j → i ≤ length es → ((p : ℕ) → p < i → slice_get fs p ≡ slice_get es p) → den_within k fs i bits ≡ den_within j es i bits
unfolding den_within
den_within-alike es fs early bits zero j i h g w same = absurd (omega arith)
den_within-alike es fs early bits (suc k) zero i h g w same = absurd (omega arith)
den_within-alike es fs early bits (suc k) (suc j) zero h g w same = refl
den_within-alike es fs early bits (suc k) (suc j) (suc p) h g w same = grind (arith, entry_at, branch_low, den_within-alike es fs early bits k j)

-- the value at an index is that of the branch that the bits choose
pub value_at-entry : (es : List Entry) → Earlier es → (bits : List Bool) (p : ℕ) (e : Entry) → slice_get es p ≡ Some e → value_at es (suc p) bits ≡ node_value es (chosen e bits) bits
unfolding den_within
value_at-entry es early bits p e at = grind (arith, branch_low, slice_get_within, den_within-alike)

pub value_at-zero : (es : List Entry) (bits : List Bool) → value_at es zero bits ≡ true
unfolding den_within
value_at-zero es bits = refl

pub slice_get-append_left : {X : Type 0} (xs ys : List X) (p : ℕ) → p < length xs → slice_get (xs ++ ys) p ≡ slice_get xs p
slice_get-append_left [] ys p h = absurd (omega arith)
slice_get-append_left (x ∷ xs) ys zero h = refl
slice_get-append_left (x ∷ xs) ys (suc p) h = slice_get-append_left xs ys p (omega arith)

pub slice_get-last : {X : Type 0} (xs : List X) (x : X) → slice_get (xs ++ x ∷ []) (length xs) ≡ Some x
slice_get-last [] x = refl
slice_get-last (y ∷ xs) x = slice_get-last xs x

-- later entries change no earlier node
pub value_at-append : (es ys : List Entry) → Earlier es → (bits : List Bool) (i : ℕ) → i ≤ length es → value_at (es ++ ys) i bits ≡ value_at es i bits
value_at-append es ys early bits i w = den_within-alike es (es ++ ys) early bits (suc i) (suc i) i (omega arith) (omega arith) w (λ p less. slice_get-append_left es ys p (omega arith))

pub top_at-append : (vars : ℕ) (es ys : List Entry) (i : ℕ) → i ≤ length es → top_at vars (es ++ ys) i ≡ top_at vars es i
unfolding top_at
top_at-append vars es ys i h = grind (arith, slice_get-append_left)

pub top_at-entry : (vars : ℕ) (es : List Entry) (p : ℕ) (e : Entry) → slice_get es p ≡ Some e → top_at vars es (suc p) ≡ e.var
unfolding top_at
top_at-entry vars es p e h = rw h refl

pub top_at-zero : (vars : ℕ) (es : List Entry) → top_at vars es zero ≡ vars
unfolding top_at
top_at-zero vars es = refl

-- what is not branching is a constant
pub not_branching : (n : Node) (b : Bool) → IsTrue b ↔ IsBranching n → b ≡ false → n.number < 2
not_branching n b means is = elim (cases_lt n.number 2) [ inl low ↦ low | inr high ↦ absurd (true≢false (sym (means.1 high) ∙ is)) ]

-- the value of a constant is whether it has no mark
pub node_value-low : (es : List Entry) (n : Node) (bits : List Bool) → n.number < 2 → node_value es n bits ≡ not (is_marked n)
node_value-low es n bits h = grind (arith, value_at-zero es bits)

pub top_of-low : (a : Arena) (n : Node) → n.number < 2 → top_of a n ≡ a.vars
top_of-low a n h = let at : index n ≡ 0 = omega arith in rw at (top_at-zero a.vars a.entries)

-- ---- complements

pub node_value-complemented : (es : List Entry) (n : Node) (bits : List Bool) → node_value es (complemented n) bits ≡ not (node_value es n bits)
node_value-complemented es n bits = rw (is_marked-complemented n, index-complemented n) (flipped-not (is_marked n) (value_at es (index n) bits))

pub node_value-complemented_if : (m : Bool) (es : List Entry) (n : Node) (bits : List Bool) → node_value es (complemented_if m n) bits ≡ flipped m (node_value es n bits)
node_value-complemented_if m es n bits = grind arith

pub top_of-complemented : (a : Arena) (n : Node) → top_of a (complemented n) ≡ top_of a n
top_of-complemented a n = ap (top_at a.vars a.entries) (index-complemented n)

pub IsNodeOf-complemented : (a : Arena) (n : Node) → IsNodeOf a n → IsNodeOf a (complemented n)
IsNodeOf-complemented a n h = omega (arith, h, index-complemented n)

-- ---- constants, in each store

pub den-constant : (b : Bool) (a : Arena) (bits : List Bool) → den a (constant b) bits ≡ b
den-constant true a bits = value_at-zero a.entries bits
den-constant false a bits = ap not (value_at-zero a.entries bits)

pub top_of-constant : (b : Bool) (a : Arena) → top_of a (constant b) ≡ a.vars
top_of-constant b a = grind (arith, top_at-zero)

pub IsNodeOf-constant : (b : Bool) (a : Arena) → IsNodeOf a (constant b)
IsNodeOf-constant b a = grind arith
