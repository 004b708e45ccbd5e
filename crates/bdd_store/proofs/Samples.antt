-- The number of subfunctions, computed at small functions.
use Rattle.std.proofs.Common.{◌≡◌, ℕ, Bool, false, not, ◌&&◌, List, refl, get_or, if◌then◌else◌}
use Rattle.bdd_store.proofs.Common.{nodes, table}

-- the bit at a place
abbrev bit : ℕ → List Bool → Bool
bit i bits = get_or bits i false

one_bit-nodes : nodes 3 (bit 1) ≡ 1
unfolding nodes table
one_bit-nodes = refl

conjunction-nodes : nodes 2 (λ bits. bit 0 bits && bit 1 bits) ≡ 2
unfolding nodes table
conjunction-nodes = refl

parity-nodes : nodes 3 (λ bits. if bit 0 bits then (if bit 1 bits then bit 2 bits else not (bit 2 bits)) else (if bit 1 bits then not (bit 2 bits) else bit 2 bits)) ≡ 5
unfolding nodes table
parity-nodes = refl
