use Rattle.std.proofs.Common.{map}
use Rattle.std.specs.Vec.{vec_items}
use Rattle.case_split.specs.CaseTables.{AreTables}
use Rattle.case_split.proofs.case_tables.tables_by.Given as goal

abbrev pub invariant-loop-case : goal.invariant-loop-case
invariant-loop-case l = AreTables l.base.net.now l.base.copied.now l.cases l.case-index l.fn.added.gates.items l.added.gates.items (map vec_items l.tables.items)
