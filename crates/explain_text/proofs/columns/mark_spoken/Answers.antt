use Rattle.explain_text.proofs.ReadLemmas.{columns_marked}
use Rattle.explain_text.proofs.columns.mark_spoken.Goals as goal

pub returns : goal.returns
returns c =
    columns_marked c.args.net.now c.args.gate c.args.upstream.now c.args.read.now c.mark_read.new.read c.requires.width c.requires.none c.requires.upstream
    c.mark_read.ensures
