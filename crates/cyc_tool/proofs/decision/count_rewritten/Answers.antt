use Rattle.std.proofs.Common.{◌≡◌, ℕ, length, ap, subst, ◌∙◌}
use Rattle.care_sets.specs.Care.{CareSet}
use Rattle.rewriting.specs.Rewriting.{rewritten, IsCountedOnCare}
use Rattle.unroll.specs.Counted.{Counted}
use Rattle.cyc_tool.proofs.Common.{Parts}
use Rattle.cyc_tool.proofs.decision.count_rewritten.Goals as goal

-- how many gates the netlist has that is rewritten by these sweeps
abbrev Numbers : ℕ → Counted → Type 0
Numbers gates k = (care : CareSet) → IsCountedOnCare k care → gates ≡ length (rewritten k.net care).gates

pub returns-in-Ok : goal.returns-in-Ok
returns-in-Ok c =
    let made = rw c.in-Ok.is at c.make_loop_free.ensures.rewriting in
    c.from.ensures ∙ c.gates.ensures.gates ∙ ap (λ (n : Parts). length n.gates) made.is

pub returns-in-Err-TooLarge : goal.returns-in-Err-TooLarge
returns-in-Err-TooLarge c =
    let number = subst (Numbers c.rewritten_gates.result) c.counted.ensures.counted c.rewritten_gates.ensures.on_care in
    number c.args.accepted.now.problem.care c.counted.ensures.was.is.sweeps
