use Rattle.std.proofs.Common.{get_or}
use Rattle.std.proofs.lemmas.List.{get_or_default}
use Rattle.sat.proofs.WorkingLemmas.{all_noted_more}
use Rattle.sat.proofs.working.note_all.Goals as goal

pub loop-lit-preserved : goal.loop-lit-preserved
loop-lit-preserved c =
    all_noted_more c.args.working.now.lits.items c.loop-lit.working.lits.items c.note.new.working.lits.items c.args.clause.now c.loop-lit.lit-index (get_or c.args.clause.now c.loop-lit.lit-index (record { code = 0 })) c.loop-lit-test.true c.loop-lit.invariant
    (λ d. get_or_default c.args.clause.now c.loop-lit.lit-index d (record { code = 0 }) c.loop-lit-test.true) c.in_ok-note.ensures
