use Rattle.std.proofs.Common.{◌++◌, ℕ, codes, decimal, arith}
use Rattle.std.proofs.lemmas.List.{get_or_read, append_assoc}
use Rattle.probes.specs.Texts.{gate_line}
use Rattle.probes.proofs.TextLemmas.{lines_more}
use Rattle.probes.proofs.glitches.show_glitches.Goals as goal

pub loop-gate-preserved : goal.loop-gate-preserved
loop-gate-preserved c =
    let gate : ℕ = c.loop-gate.gate in
    grind (arith, get_or_read c.in_ok-tally.tally.counts.items gate c.index.result.now, lines_more (gate_line c.args.changes.now c.args.net.now) 0 gate gate)

pub returns : goal.returns
returns c = grind (arith, append_assoc c.loop-gate.text.items (codes "glitches=" ++ decimal c.in_ok-tally.tally.total) (codes "\n"))
