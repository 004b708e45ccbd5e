-- Nodes, wires, boxes and labels in the DOT language of Graphviz.
use Rattle.std.specs.Prelude.{ℕ, List, [], ◌∷◌, ◌++◌, ◌==◌, codes, decimal, if◌then◌else◌}
use Rattle.std.specs.List.{flat_map}

-- A byte of a text between quotes, as `dot` shows it: a quote and a backslash stand behind a backslash, an ampersand would
-- begin an entity, and a line ends at the left.
abbrev pub quoted_byte : ℕ → List ℕ
quoted_byte b =
    if b == 34 then codes "\\\""
    else if b == 92 then codes "\\\\"
    else if b == 38 then codes "&amp;"
    else if b == 10 then codes "\\l"
    else b ∷ []

abbrev pub quoted : List ℕ → List ℕ
quoted text = flat_map quoted_byte text

-- A signal's node, by its number: DOT takes a name that begins with a percent sign for none. Its name stands between
-- what opens the label and what closes it.
abbrev pub node : ℕ → List ℕ → List ℕ → List ℕ → List ℕ
node number opens name closes = (codes "  s" ++ decimal number) ++ (opens ++ (quoted name ++ closes))

-- a wire from one signal to the gate of another
abbrev pub wire : ℕ → ℕ → List ℕ → List ℕ
wire from to style = (codes "  s" ++ decimal from) ++ ((codes " -> s" ++ decimal to) ++ style)

-- A box beside the node of this number, with an arrow to it. Its text stands between what opens the label and what closes it.
abbrev pub box_opens : ℕ → List ℕ
box_opens number = (codes "  v" ++ decimal number) ++ codes " [shape=box, label=\""

abbrev pub box_closes : ℕ → List ℕ
box_closes number = (codes "\"];\n  v" ++ decimal number) ++ ((codes " -> s" ++ decimal number) ++ codes ";\n")

abbrev pub box : ℕ → List ℕ → List ℕ
box number text = box_opens number ++ (quoted text ++ box_closes number)

-- a graph with this text as its label
abbrev pub graph_head : List ℕ → List ℕ
graph_head label = codes "digraph {\n  label=\"" ++ (quoted label ++ codes "\";\n")

abbrev pub labelled_graph : List ℕ → List ℕ → List ℕ
labelled_graph label body = graph_head label ++ (body ++ codes "}\n")
