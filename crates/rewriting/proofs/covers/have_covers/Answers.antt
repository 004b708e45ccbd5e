use Rattle.std.proofs.Common.{arith}
use Rattle.std.proofs.lemmas.List.Elements.{All-more}
use Rattle.cyc_base.proofs.ListLemmas.{item_at}
use Rattle.cover_logic.specs.Covers.{IsCover}
use Rattle.netlist.specs.declared.parts.Gate.{Gate}
use Rattle.rewriting.proofs.covers.have_covers.Goals as goal

pub loop-i-init : goal.loop-i-init
loop-i-init c = λ k d inside. absurd (omega (arith, inside))

pub loop-i-preserved : goal.loop-i-preserved
loop-i-preserved c =
    All-more (λ (gate : Gate). IsCover gate.cover) c.args.net.now.gates c.loop-i.i c.gate.result.now (omega arith) c.loop-i.invariant
    (rw (← item_at c.args.net.now.gates c.loop-i.i c.gate.result.now c.gate.ensures.gate) c.pins.ensures.proper)
