-- A node's index and mark, and what they tell of it.
use Rattle.std.proofs.Common.{◌≡◌, ℕ, ◌+◌, ◌-◌, ◌*◌, ◌%◌, Bool, false, not, ◌==◌, ◌⊎◌, sym, ap, ◌∙◌, arith}
use Rattle.bdd_store.proofs.Common.{Node, index, is_marked, complemented, complemented_if, flipped}
use Rattle.cyc_base.proofs.ListLemmas.{parity}

-- ---- negated values

pub flipped-twice : (m b : Bool) → flipped m (flipped m b) ≡ b
flipped-twice m b = grind arith

pub flipped-not : (m b : Bool) → flipped (not m) b ≡ not (flipped m b)
flipped-not m b = grind arith

pub flipped-same : (m b c : Bool) → flipped m b ≡ flipped m c → b ≡ c
flipped-same m b c e = sym (flipped-twice m b) ∙ ap (flipped m) e ∙ flipped-twice m c

-- a mark is read off what it makes of a value
pub flipped-marks : (m n b : Bool) → flipped m b ≡ flipped n b → m ≡ n
flipped-marks m n b e = grind arith

pub flipped-own : (b : Bool) → flipped b b ≡ false
flipped-own b = grind arith

-- ---- parity

pub unmarked-odd : (n : Node) → n.number % 2 ≡ 1 → is_marked n ≡ false
unmarked-odd n e = ap (λ r. r == 0) e

-- ---- the complement

pub index-complemented : (n : Node) → index (complemented n) ≡ index n
index-complemented n = omega arith

pub is_marked-complemented : (n : Node) → is_marked (complemented n) ≡ not (is_marked n)
is_marked-complemented n = grind arith

pub index-complemented_if : (m : Bool) (n : Node) → index (complemented_if m n) ≡ index n
index-complemented_if m n = grind arith

pub is_marked-complemented_if : (m : Bool) (n : Node) → is_marked (complemented_if m n) ≡ flipped m (is_marked n)
is_marked-complemented_if m n = grind arith

-- ---- the node without a mark at a position

pub plain : (n : Node) (p : ℕ) → n.number ≡ 2 * p + 3 → (index n ≡ p + 1) × (is_marked n ≡ false)
plain n p e = (omega (arith, e), unmarked-odd n (omega (arith, e)))

-- nodes of one index are one node, or one is the other's complement
pub same_entry : (m n : Node) → index m ≡ index n → (m ≡ n) ⊎ (m ≡ complemented n)
same_entry m n i = grind arith

-- index and mark tell the node
pub same_node : (m n : Node) → index m ≡ index n → is_marked m ≡ is_marked n → m ≡ n
same_node m n i h = grind arith
