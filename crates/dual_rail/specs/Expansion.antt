-- Shannon's expansion of rows: what is left to be matched where the first pins are known.
use Rattle.std.specs.Prelude.{◌≡◌, ◌≤◌, ◌+◌, ◌==◌, ◌&&◌, ◌∷◌, ℕ, zero, suc, Bool, true, false, not, List, [], length, drop, slice_get, if◌then◌else◌}
use Rattle.std.specs.List.{list_any, list_all, filter, slice_index_or, zip}
use Rattle.std.specs.Option.{option_map_or}
use Rattle.bdd_store.specs.declared.node.Node.{Node}
use Rattle.bdd_store.specs.Arena.{Arena, den, top_of, IsNodeOf}
use Rattle.cover_logic.specs.declared.row.Lit.{Lit}
use Rattle.cover_logic.specs.declared.row.Lit.TheVariants.{Zero, One, Any}
use Rattle.cover_logic.specs.declared.row.Row.{Row}
use Rattle.cover_logic.specs.Covers.{allows, matches}

-- the literals of a row by its number
abbrev pub lits_of : List Row → ℕ → List Lit
lits_of rows row = option_map_or (λ r. r.lits) (slice_get rows row) []

abbrev pub literal : List Row → ℕ → ℕ → Lit
literal rows row pin = slice_index_or (lits_of rows row) pin Any

abbrev pub is_any : Lit → Bool
is_any Zero = false
is_any One = false
is_any Any = true

-- its literals from a pin on
abbrev pub suffix : List Row → ℕ → ℕ → List Lit
suffix rows pin row = drop pin (lits_of rows row)

-- whether it asks nothing of this pin and of those after it
abbrev pub is_settled : List Row → ℕ → ℕ → Bool
is_settled rows pin row = list_all is_any (suffix rows pin row)

-- where literals end, by whether the first one asks nothing and where the others end
abbrev pub end_behind : Bool → ℕ → ℕ
end_behind true zero = 0
end_behind any end = suc end

-- how many first literals there are up to the last one that asks something
abbrev pub end_of : List Lit → ℕ
end_of [] = 0
end_of (lit ∷ lits) = end_behind (is_any lit) (end_of lits)

-- whether it matches at this pin and at those after it
abbrev pub matches_from : List Row → ℕ → List Bool → ℕ → Bool
matches_from rows pin bits row = matches (suffix rows pin row) (drop pin bits)

-- from this pin on some of the rows match where some of the others do, and nowhere else
abbrev pub MatchAlike : List Row → ℕ → List ℕ → List ℕ → Type 0
MatchAlike rows pin some others = (bits : List Bool) → list_any (matches_from rows pin bits) some ≡ list_any (matches_from rows pin bits) others

-- whether the second literal is `-` or the first one
abbrev pub is_within : Lit → Lit → Bool
is_within lit Any = true
is_within Zero Zero = true
is_within One One = true
is_within lit wide = false

-- whether each literal of the other row is `-` or this row's own, from this pin on
abbrev pub is_contained : List Row → ℕ → ℕ → ℕ → Bool
is_contained rows pin row other =
    (length (suffix rows pin row) == length (suffix rows pin other)) && list_all (λ pair. is_within pair.0 pair.1) (zip (suffix rows pin row) (suffix rows pin other))

abbrev pub in_plane : Bool → Bool → Bool
in_plane plane some = if plane then some else not some

-- the value where the pins before this one match these rows and no others
abbrev pub remainder : List Row → Bool → ℕ → List ℕ → List Bool → Bool
remainder rows plane pin live bits = in_plane plane (list_any (matches_from rows pin bits) live)

-- those of the rows that a value of this pin matches
abbrev pub narrowed : List Row → ℕ → Bool → List ℕ → List ℕ
narrowed rows pin bit live = filter (λ row. allows (literal rows row pin) bit) live

-- n is the node of the remainder, and reads no pin before this one
pub record IsExpansion (rows : List Row) (plane : Bool) (s : Arena) (pin : ℕ) (live : List ℕ) (n : Node) : Type 0 where
  pub node : IsNodeOf s n
  pub function : (bits : List Bool) → length bits ≡ s.vars → den s n bits ≡ remainder rows plane pin live bits
  pub top : pin ≤ top_of s n

-- the nodes of the remainder at both values of a pin
pub record AreBranches (rows : List Row) (plane : Bool) (s : Arena) (pin : ℕ) (live : List ℕ) (low high : Node) : Type 0 where
  pub at_zero : IsExpansion rows plane s (pin + 1) (narrowed rows pin false live) low
  pub at_one : IsExpansion rows plane s (pin + 1) (narrowed rows pin true live) high
