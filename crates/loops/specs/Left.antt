-- What is left of a list of loops.
use Rattle.std.specs.Prelude.{List, ◌+◌}
use Rattle.loops.specs.Numbered.{Listed, first_gates_from, numbered}
use Rattle.loops.specs.declared.loop_list.ListedLoop.{ListedLoop}
use Rattle.loops.specs.declared.loop_list.LoopList.{LoopList}

-- how clauses see a loop
abbrev pub loop_seen : ListedLoop → Listed
loop_seen l = record { number = l.number; first = l.first; gates = l.gates.now }

abbrev pub loops_left : LoopList → List Listed
loops_left s = numbered s.looped.now.net (s.number + 1) (first_gates_from s.looped.now.net s.gate)
