-- The gates of each block, by the blocks' numbers of the gates.
use Rattle.std.specs.Prelude.{◌==◌, ℕ, Bool, true, false, List, [], ◌∷◌, length, filter, slice_index_or}
use Rattle.std.specs.List.{list_any, range_with_len}
use Rattle.loops.specs.declared.structure.Block.{Block}

-- the gates of a number, in flat order, among the first gates
abbrev pub members_below : List ℕ → ℕ → ℕ → List ℕ
members_below homes gates number = filter (λ n. slice_index_or homes n 0 == number) (range_with_len 0 gates)

abbrev pub members : List ℕ → ℕ → List ℕ
members homes number = members_below homes (length homes) number

-- the gates of a strongly connected component are a loop where there are two, or the one reads itself
abbrev pub is_loop : List (List ℕ) → List ℕ → Bool
is_loop graph [] = false
is_loop graph (gate ∷ []) = list_any (λ read. read == gate) (slice_index_or graph gate [])
is_loop graph (gate ∷ other ∷ gates) = true

abbrev pub block_of : List (List ℕ) → List ℕ → Block
block_of graph gates = record { gates = gates; looped = is_loop graph gates }
