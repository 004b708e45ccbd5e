-- The edge of a cover, where its pins have these edges.
use Rattle.std.specs.Prelude.{Bool, true, false, List, [], ◌∷◌, fold}
use Rattle.std.specs.List.{zip}
use Rattle.cover_logic.specs.Covers.{Cover}
use Rattle.cover_logic.specs.declared.row.Lit.{Lit}
use Rattle.cover_logic.specs.declared.row.Lit.TheVariants.{Zero, One, Any}
use Rattle.cover_logic.specs.declared.row.Row.{Row}
use Rattle.aig_core.specs.declared.edge.Edge.{Edge}
use Rattle.aig_core.specs.Graphs.{Graph, complement}
use Rattle.aig_core.specs.Conjunctions.{Made, found, constant, conjunction, disjunction, complemented}

-- the conjunction with one more pin, which is complemented where the row has `0` and left out where it has `-`
abbrev pub with_pin : Made → Edge → Lit → Made
with_pin made pin Zero = conjunction made.graph made.edge (complement pin)
with_pin made pin One = conjunction made.graph made.edge pin
with_pin made pin Any = made

-- a row: the conjunction over its pins in their order, from 1 on
unfoldable pub row_made : Graph → List Edge → List Lit → Made
row_made g pins lits = fold (λ made pin. with_pin made pin.0 pin.1) (found g (constant true)) (zip pins lits)

-- the disjunction with one more row, which is made just before
abbrev pub with_row : List Edge → Made → Row → Made
with_row pins made row =
    let next = row_made made.graph pins row.lits in disjunction next.graph made.edge next.edge

-- the disjunction over the rows in their order, from 0 on
unfoldable pub rows_made : Graph → List Edge → List Row → Made
rows_made g pins rows = fold (with_row pins) (found g (constant false)) rows

-- an off-plane lists where the value is 0
abbrev pub in_plane : Bool → List Row → Made → Made
in_plane true rows made = made
in_plane false [] made = made
in_plane false (row ∷ rows) made = complemented made

abbrev pub cover_made : Graph → List Edge → Cover → Made
cover_made g pins cover = in_plane cover.plane cover.rows (rows_made g pins cover.rows)
