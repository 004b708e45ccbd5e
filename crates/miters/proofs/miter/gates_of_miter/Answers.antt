use Rattle.std.proofs.Common.{◌++◌, ap₂, ◌∙◌}
use Rattle.miters.proofs.Common.{append_assoc, moved_gates, miter_gates}
use Rattle.miters.proofs.miter.gates_of_miter.Goals as goal

pub returns : goal.returns
returns c =
    let a = c.args.a.now in
    let b = c.args.b.now in
    c.in_ok-add_miter_gates.ensures
    ∙ ap₂ (λ gates number. gates ++ miter_gates c.args.a.now number c.args.pairs.now) c.in_ok-gates.ensures c.gates.ensures.gates
    ∙ append_assoc a.gates (moved_gates a b) (miter_gates a _ c.args.pairs.now)
