use Rattle.sched_text.proofs.SaidLemmas.{reads_back}
use Rattle.sched_text.proofs.laws.written_schedule_reads_back.Goals as goal

pub returns : goal.returns
returns c = reads_back
