use Rattle.std.proofs.Common.{length, ap, ◌∙◌, arith}
use Rattle.netlist.specs.declared.parts.Parts.{Parts}
use Rattle.rewriting.proofs.RewrittenLemmas.{size_is_rewritten, rewritten_has_its_size, rewritten_latches}
use Rattle.rewriting.proofs.sizes.rewritten_gates.Goals as goal

pub returns-clause-on_care : goal.returns-clause-on_care
returns-clause-on_care c care on_care =
    let l = c.args.counted.now in
    let is = c.unrolled_size-size.ensures.is in
    grind (arith, size_is_rewritten l.net l.blocks l.cut care l.sweeps is.blocks is.cut on_care, rewritten_has_its_size l.net care, rewritten_latches l.net care)
