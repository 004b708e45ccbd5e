use Rattle.std.proofs.Common.{◌++◌, ◌∷◌, [], ap, ap₂, sym, ◌∙◌}
use Rattle.miters.proofs.Common.{Latch, pair_of, source_named}
use Rattle.netlist.proofs.CopyLemmas.{taken_mapped}
use Rattle.miters.proofs.pairs.latch_pairs.Goals as goal

pub loop-number-preserved : goal.loop-number-preserved
loop-number-preserved c =
    let latch = c.latch-latch.result.now in
    c.in_ok-push.ensures.items
    ∙ ap₂ (λ xs x. xs ++ x ∷ []) c.loop-number.invariant (ap (pair_of latch.from) c.source_in-there.ensures)
    ∙ sym (taken_mapped (λ (l : Latch). pair_of l.from (source_named c.args.b.now l.name)) c.args.a.now.latches c.loop-number.number latch c.latch-latch.ensures.latch)
