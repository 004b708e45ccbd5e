use Rattle.std.proofs.Common.{◌∙◌, ap, length}
use Rattle.case_split.proofs.left.left_at.Goals as goal

pub graph_of-requires-clause-table : goal.graph_of-requires-clause-table
graph_of-requires-clause-table c = ap length c.deref.ensures.value ∙ c.in_ok-table.ensures.width
