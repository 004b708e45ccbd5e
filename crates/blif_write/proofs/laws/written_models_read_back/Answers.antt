use Rattle.blif_write.proofs.ReadingBack.{each_reads_back}
use Rattle.blif_write.proofs.laws.written_models_read_back.Goals as goal

pub returns : goal.returns
returns c = each_reads_back
