use Rattle.std.proofs.Common.{codes}
use Rattle.blif_write.proofs.Common.{signal_name, appended_then, appended_cut, appended_equal}
use Rattle.blif_write.proofs.LineLemmas.{line_ends}
use Rattle.blif_write.proofs.gates.put_gate_names.Goals as goal

pub returns-in_err-write_whole : goal.returns-in_err-write_whole
returns-in_err-write_whole g c = appended_equal _ _ _ _ (line_ends (codes ".names") (signal_name c.args.net.now) c.args.gate.now.pins c.args.gate.now.name) (appended_cut _ _ _ _ _ c.in_err-write_whole.ensures c.from_residual.ensures.0)

pub returns-in_err-put_names : goal.returns-in_err-put_names
returns-in_err-put_names g c = appended_equal _ _ _ _ (line_ends (codes ".names") (signal_name c.args.net.now) c.args.gate.now.pins c.args.gate.now.name) (rw (← c.items.ensures) (appended_then _ _ _ _ _ _ _ _ _ _ c.in_ok-write_whole.ensures (appended_cut _ _ _ _ _ c.in_err-put_names.ensures c.from_residual-in_err-put_names.ensures.0)))

pub returns : goal.returns
returns g c = appended_equal _ _ _ _ (line_ends (codes ".names") (signal_name c.args.net.now) c.args.gate.now.pins c.args.gate.now.name) (rw (← c.items.ensures, ← c.bytes.ensures) (appended_then _ _ _ _ _ _ _ _ _ _ c.in_ok-write_whole.ensures (appended_then _ _ _ _ _ _ _ _ _ _ c.in_ok-put_names.ensures c.put_last_word.ensures)))
