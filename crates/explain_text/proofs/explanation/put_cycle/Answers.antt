use Rattle.std.proofs.Common.{arith}
use Rattle.std.specs.Prelude.{codes}
use Rattle.explain_text.proofs.Common.{appended_then, appended_cut}
use Rattle.explain_text.specs.Explanations.{values_line}
use Rattle.explain_text.proofs.explanation.put_cycle.Goals as goal

pub returns-in_err-put_gates : goal.returns-in_err-put_gates
returns-in_err-put_gates g c = rw (← c.items.ensures) (appended_cut _ _ _ _ _ c.in_err-put_gates.ensures c.from_residual.ensures.0)

pub returns-in_err-put_sides_line : goal.returns-in_err-put_sides_line
returns-in_err-put_sides_line g c =
    grind (
      arith,
      appended_then _ _ _ _ _ _ _ _ _ _ c.in_ok-put_gates.ensures
          (appended_cut _ _ (values_line (codes "needs") c.args.net.now c.args.why.now.needs) _ _ c.in_err-put_sides_line.ensures c.from_residual-in_err-put_sides_line.ensures.0),
    )

pub returns : goal.returns
returns g c = grind (arith, appended_then _ _ _ _ _ _ _ _ _ _ c.in_ok-put_gates.ensures (appended_then _ _ _ _ _ _ _ _ _ _ c.in_ok-put_sides_line.ensures c.put_values.ensures), appended_then _ _ _ _ _ _ _ _ _ _ c.in_ok-put_sides_line.ensures c.put_values.ensures)
