use Rattle.std.proofs.Common.{List, sym, subst}
use Rattle.care_rows.specs.Rows.{AreSteadyRows}
use Rattle.care_rows.specs.declared.rows.Row.{Row}
use Rattle.assumptions.proofs.FoundLemmas.{found_steady}
use Rattle.assumptions.proofs.search.round_with_rows.Goals as goal

pub stronger_care-requires-clause-steady : goal.stronger_care-requires-clause-steady
stronger_care-requires-clause-steady c =
    subst (λ (rs : List Row). AreSteadyRows c.args.task.now.looped.now.net rs) (sym c.deref.ensures.value)
    (found_steady c.args.task.now.looped.now.net c.args.task.now.care.now c.args.task.now.observe c.args.rows.now.items c.requires.rows)
