use Rattle.blif_write.proofs.ReadingBack.{reads_back}
use Rattle.blif_write.proofs.laws.written_text_reads_back.Goals as goal

pub returns : goal.returns
returns c = reads_back
