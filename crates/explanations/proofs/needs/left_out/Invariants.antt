use Rattle.explanations.specs.Explained.{IsWithoutRun}
use Rattle.explanations.proofs.needs.left_out.Given as goal

abbrev pub invariant-loop-column : goal.invariant-loop-column
invariant-loop-column l = IsWithoutRun l.kept l.first l.column l.given l.fewer.items
