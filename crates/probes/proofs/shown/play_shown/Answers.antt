use Rattle.std.proofs.Common.{arith}
use Rattle.probes.proofs.HearingLemmas.{each_whole}
use Rattle.probes.proofs.ShowLemmas.{all_show, all_can_show}
use Rattle.probes.proofs.SliceLemmas.{on_err}
use Rattle.probes.proofs.shown.play_shown.Goals as goal

pub show_kind-requires : goal.show_kind-requires
show_kind-requires g c = grind (arith, all_can_show _ _ _ _ _ c.args.net.now _ _ c.requires.silent c.in_ok-ends.ensures.heard c.in_ok-ends.ensures.signals)

pub returns-clause-text : goal.returns-clause-text
returns-clause-text g c = grind (arith, all_show _ _ _ _ _ c.args.net.now _ _ c.requires.silent c.in_ok-ends.ensures.heard)

pub returns-in_err-text_shown-clause-err : goal.returns-in_err-text_shown-clause-err
returns-in_err-text_shown-clause-err g c = grind (arith, on_err c.from_residual-in_err-text_shown.result (each_whole _ _ _ _ _ _ _ c.in_ok-ends.ensures.heard), each_whole _ _ _ _ _ _ _ c.in_ok-ends.ensures.heard)
