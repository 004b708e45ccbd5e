-- What the parts of a decision cost: how many functions each makes.
use Rattle.std.specs.Prelude.{ℕ, ◌+◌, ◌*◌, length}
use Rattle.std.specs.Option.{option_map_or}
use Rattle.netlist.specs.Netlists.{columns}
use Rattle.fixpoint.specs.Working.{effort}
use Rattle.netlist.specs.declared.parts.Parts.{Parts}
use Rattle.care_sets.specs.Care.{CareSet}

-- the effort of a model that is there
abbrev pub assume_effort : CareSet → ℕ
assume_effort care = option_map_or (λ model. effort model.net) care.assume 0

abbrev pub invariant_effort : CareSet → ℕ
invariant_effort care = option_map_or (λ model. effort model.net) care.invariant 0

-- the vectors of care: the invariant, the permitted states, those that aren't in it, and then the assumption with the
-- invariant
abbrev pub start_cost : Parts → CareSet → ℕ
start_cost net care = 2 * invariant_effort care + columns net + 1 + (2 * assume_effort care + 1)

-- care vectors that leave the invariant: the latches' next values, the invariant of them, and where it fails
abbrev pub leaving_cost : Parts → CareSet → ℕ
leaving_cost net care = 2 * length net.latches + 2 * invariant_effort care + 1

-- the unknown gates, and then these
abbrev pub care_cost : Parts → CareSet → ℕ
care_cost net care = 2 * length net.gates + leaving_cost net care

-- the netlist solved
abbrev pub solving_cost : Parts → ℕ
solving_cost net = 10 * (length net.gates + 2) * effort net

-- and what refuses it on the vectors of care
abbrev pub judging_cost : Parts → CareSet → ℕ
judging_cost net care = solving_cost net + care_cost net care

-- the sweeps of its loops, once it is solved
abbrev pub sweeps_cost : Parts → ℕ
sweeps_cost net = 6 * length net.gates * (length net.gates + 2)

-- the vectors of care alone: the invariant, and then the assumption with it
abbrev pub set_cost : CareSet → ℕ
set_cost care = 2 * invariant_effort care + (2 * assume_effort care + 1)

-- these, the netlist solved, and the sweeps
abbrev pub counting_cost : Parts → CareSet → ℕ
counting_cost net care = set_cost care + (solving_cost net + sweeps_cost net)

-- the whole decision: both rails of each column, whose nodes are fewer than two functions of w nodes have, and then its
-- parts, with the fixpoint and the sweeps that are counted. It is at least what a judgement makes, and at least what
-- counting does: each of these begins with new diagrams.
abbrev pub decision_cost : Parts → CareSet → ℕ
decision_cost net care = 2 + start_cost net care + 10 * (length net.gates + 2) * effort net + care_cost net care + 6 * length net.gates * (length net.gates + 2)
