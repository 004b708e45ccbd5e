use Rattle.std.proofs.Common.{Some, sym, ap, ◌∙◌}
use Rattle.verdict.proofs.Common.{Refusal, columns, found_wide, is_leaving}
use Rattle.diagram_decision.proofs.PartLemmas.{leaves-is}
use Rattle.verdict.proofs.invariance.invariance_by.Goals as goal

pub leaves_at-requires : goal.leaves_at-requires
leaves_at-requires c = found_wide (columns c.args.net.now) (is_leaving c.args.net.now c.args.care.now) c.in-Least.vector.items (rw c.in-Least.is at c.requires)

pub returns-in_ok-leaves_at-in-Least : goal.returns-in_ok-leaves_at-in-Least
returns-in_ok-leaves_at-in-Least c = leaves-is c.args.net.now c.args.care.now (rw c.in-Least.is at c.requires) ∙ ap (λ (r : Refusal). Some r) (sym c.in_ok-leaves_at-in-Least.ensures)

pub returns-in-NoVector : goal.returns-in-NoVector
returns-in-NoVector c = leaves-is c.args.net.now c.args.care.now (rw c.in-NoVector.is at c.requires)
