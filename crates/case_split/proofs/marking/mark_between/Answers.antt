use Rattle.std.proofs.Common.{◌∙◌, ◌<◌, get_or, length, ap, subst, sym}
use Rattle.netlist.specs.declared.parts.Parts.{Parts}
use Rattle.case_split.proofs.marking.mark_between.Goals as goal

pub reads_marked-requires-clause-width : goal.reads_marked-requires-clause-width
reads_marked-requires-clause-width c = c.loop-gate.auto.marks ∙ c.requires.width ∙ sym (ap (λ (net : Parts). length net.gates) c.net.ensures.net)

pub reads_marked-requires-clause-gate : goal.reads_marked-requires-clause-gate
reads_marked-requires-clause-gate c =
    subst (λ (net : Parts). get_or c.args.gates.now c.loop-gate.gate-index 0 < length net.gates) (sym c.net.ensures.net)
    (c.requires.gates c.loop-gate.gate-index 0 c.loop-gate-test.true)
