-- And-inverter graphs (Kuehlmann and Krohm 1997), numbered as in AIGER (Biere 2006): variable 0 is false, and behind it
-- come the inputs, the latches and the ANDs, each in their order. An edge is twice the number of its variable, and one
-- more for the complement.
use Rattle.std.specs.Prelude.{ℕ, ◌+◌, ◌-◌, ◌*◌, ◌/◌, ◌%◌, ◌<◌, ◌==◌, ◌&&◌, Bool, false, not, List, [], ◌∷◌, ◌++◌, length, fold, slice_index_or, if◌then◌else◌}
use Rattle.aig_core.specs.declared.edge.Edge.{Edge}
use Rattle.aig_core.specs.declared.edge.And.{And}

pub record Graph : Type 0 where
  pub inputs : ℕ
  pub latches : ℕ
  pub ands : List And

-- no ANDs yet
abbrev pub empty : ℕ → ℕ → Graph
empty inputs latches = record { inputs = inputs; latches = latches; ands = [] }

abbrev pub with_ands : Graph → List And → Graph
with_ands g ands = record { inputs = g.inputs; latches = g.latches; ands = ands }

-- the variable of the first AND, and how many variables there are
abbrev pub first_and : Graph → ℕ
first_and g = 1 + g.inputs + g.latches

abbrev pub variables : Graph → ℕ
variables g = first_and g + length g.ands

abbrev pub edge : ℕ → Edge
edge n = record { 0 = n }

-- the edge of a variable, without a complement
abbrev pub edge_to : ℕ → Edge
edge_to variable = edge (2 * variable)

abbrev pub variable : Edge → ℕ
variable e = e.0 / 2

abbrev pub is_complement : Edge → Bool
is_complement e = (e.0 % 2) == 1

abbrev pub complement : Edge → Edge
complement e = edge (e.0 + 1 - 2 * (e.0 % 2))

-- its variable is one of the graph's
abbrev pub IsEdge : Graph → Edge → Type 0
IsEdge g e = e.0 < 2 * variables g

-- the value of an edge where the variables have these values
abbrev pub edge_value : List Bool → Edge → Bool
edge_value values e =
    if is_complement e then not (slice_index_or values (variable e) false) else slice_index_or values (variable e) false

-- the values with that of one more AND
abbrev pub with_value : List Bool → And → List Bool
with_value values and = values ++ (edge_value values and.greater && edge_value values and.smaller) ∷ []

-- the value of each variable where the inputs and then the latches have the values v
abbrev pub values : List And → List Bool → List Bool
values ands v = fold with_value (false ∷ v) ands

-- the denotation of an edge
unfoldable pub den : Graph → Edge → List Bool → Bool
den g e v = edge_value (values g.ands v) e
