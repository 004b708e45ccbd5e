use Rattle.std.proofs.Common.{arith}
use Rattle.blif_text.proofs.LineBufferLemmas.{done_kept}
use Rattle.blif_text.proofs.line_buffer.LineBuffer.end_line.Goals as goal

pub returns-else-last_end-end-clause-done : goal.returns-else-last_end-end-clause-done
returns-else-last_end-end-clause-done c = grind (arith, done_kept)
