use Rattle.std.proofs.Common.{◌≡◌, ◌+◌, ◌++◌, drop}
use Rattle.cyc_io.specs.Text.{text_bytes}
use Rattle.plain_commands.proofs.Common.{delays_text}
use Rattle.plain_commands.specs.Plays.{end_lines}
use Rattle.plain_commands.proofs.plays.put_ends.Given as goal

-- what is told so far, and then the lines of the ticks that are left
abbrev pub invariant-loop-i : goal.invariant-loop-i
invariant-loop-i l = text_bytes l.sink ++ end_lines (l.i + 1) (drop l.i l.ends) ≡ text_bytes l.fn.sink ++ delays_text l.ends
