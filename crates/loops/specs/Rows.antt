-- Rows of gates: for each gate those to which it leads.
use Rattle.std.specs.Prelude.{ℕ, List, [], slice_index_or, Contains}

-- the gates to which a gate leads
abbrev pub row_at : List (List ℕ) → ℕ → List ℕ
row_at rows n = slice_index_or rows n []

abbrev pub InRow : List (List ℕ) → ℕ → ℕ → Type 0
InRow rows a b = Contains (row_at rows a) b
