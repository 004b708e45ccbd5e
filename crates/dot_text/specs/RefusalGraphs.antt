-- Refusals as labels of graphs: what is refused, without the values of columns.
use Rattle.std.specs.Prelude.{ℕ, List, [], ◌++◌, codes}
use Rattle.cyc_base.specs.declared.sig.Sig.{Sig}
use Rattle.netlist.specs.Netlists.{signal_name}
use Rattle.netlist.specs.declared.parts.Parts.{Parts}
use Rattle.refusals.specs.declared.refusal.Refusal.{Refusal}
use Rattle.refusals.specs.declared.refusal.Refusal.TheVariants.{Initial, EmptyCare, Undetermined, Leaves}
use Rattle.dot_text.specs.Dot.{labelled_graph}

abbrev pub wire_label : Parts → Sig → List ℕ
wire_label net s = codes "refused undetermined wire=" ++ (signal_name net s ++ codes "\n")

-- the first words of a refusal's line
abbrev pub refusal_label : Parts → Refusal → List ℕ
refusal_label net (Initial q) = codes "refused initial\n"
refusal_label net EmptyCare = codes "refused empty care\n"
refusal_label net (Undetermined v s) = wire_label net s
refusal_label net (Leaves v q) = codes "refused leaves\n"

-- a refusal without more
abbrev pub refusal_graph : Parts → Refusal → List ℕ
refusal_graph net refused = labelled_graph (refusal_label net refused) []
