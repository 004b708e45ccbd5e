use Rattle.std.proofs.Common.{◌++◌, ap, append-nil}
use Rattle.blif_write.proofs.Common.{edge_word, behind, appended_then, appended_cut, appended_equal}
use Rattle.blif_write.proofs.latches.put_clock_words.Goals as goal

pub returns-in_err-put_word : goal.returns-in_err-put_word
returns-in_err-put_word g c = appended_equal _ _ _ _ (ap (λ last. behind (edge_word c.args.clock.now.edge) ++ behind last) (append-nil c.args.clock.now.name)) (rw (← c.edge_word.ensures) (appended_cut _ _ _ _ _ c.in_err-put_word.ensures c.from_residual.ensures.0))

pub returns : goal.returns
returns g c = appended_equal _ _ _ _ (ap (λ last. behind (edge_word c.args.clock.now.edge) ++ behind last) (append-nil c.args.clock.now.name)) (rw (← c.edge_word.ensures, ← c.bytes.ensures) (appended_then _ _ _ _ _ _ _ _ _ _ c.in_ok-put_word.ensures c.put_word-2.ensures))
