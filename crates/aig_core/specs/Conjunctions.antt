-- The conjunction of two edges, with structural hashing: an AND is made only where none of the same pair is there.
use Rattle.std.specs.Prelude.{◌≡◌, ◌+◌, ◌==◌, ◌||◌, ◌&&◌, nat_le, Bool, false, List, [], ◌∷◌, ◌++◌, Some, None, if◌then◌else◌}
use Rattle.std.specs.declared.option.Option.{Option}
use Rattle.std.specs.List.{list_any, position_or_len}
use Rattle.std.specs.Option.{option_map_or}
use Rattle.aig_core.specs.declared.edge.Edge.{Edge}
use Rattle.aig_core.specs.declared.edge.And.{And}
use Rattle.aig_core.specs.Graphs.{Graph, with_ands, first_and, edge, edge_to, complement}

-- an edge, and the graph in which it was found or made
pub record Made : Type 0 where
  pub graph : Graph
  pub edge : Edge

abbrev pub found : Graph → Edge → Made
found g e = record { graph = g; edge = e }

abbrev pub constant : Bool → Edge
constant b = edge (if b then 1 else 0)

-- 0 where an edge is 0 or the two are complements; else the other where one is 1, and one of them where they are equal
abbrev pub simple_and : Edge → Edge → Option Edge
simple_and a b =
    if (a.0 == 0) || ((b.0 == 0) || (a.0 == (complement b).0)) then Some (edge 0)
    else (if a.0 == 1 then Some b else (if (b.0 == 1) || (a.0 == b.0) then Some a else None))

-- the greater edge first
abbrev pub pair_of : Edge → Edge → And
pair_of a b = if nat_le b.0 a.0 then record { greater = a; smaller = b } else record { greater = b; smaller = a }

abbrev pub same_pair : And → And → Bool
same_pair x y = (x.greater.0 == y.greater.0) && (x.smaller.0 == y.smaller.0)

-- the AND stays where it is there, and else goes last
abbrev pub entered : List And → And → List And
entered ands and = if list_any (same_pair and) ands then ands else ands ++ and ∷ []

abbrev pub hashed : Graph → And → Made
hashed g and = record {
  graph = with_ands g (entered g.ands and);
  edge = edge_to (first_and g + position_or_len (same_pair and) g.ands);
}

unfoldable pub conjunction : Graph → Edge → Edge → Made
conjunction g a b = option_map_or (found g) (simple_and a b) (hashed g (pair_of a b))

-- a new AND is needed for the two edges
pub record NeedsAnd (g : Graph) (a b : Edge) : Type 0 where
  pub apart : simple_and a b ≡ None
  pub new : list_any (same_pair (pair_of a b)) g.ands ≡ false

abbrev pub complemented : Made → Made
complemented made = record { graph = made.graph; edge = complement made.edge }

-- by De Morgan's law
abbrev pub disjunction : Graph → Edge → Edge → Made
disjunction g a b = complemented (conjunction g (complement a) (complement b))
