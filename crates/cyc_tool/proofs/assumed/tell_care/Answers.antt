use Rattle.cyc_tool.proofs.AssumedLemmas.{is_care_file}
use Rattle.cyc_tool.proofs.assumed.tell_care.Goals as goal

pub returns-in-Ok-clause-written : goal.returns-in-Ok-clause-written
returns-in-Ok-clause-written c net is = is_care_file net c.args.care.now c.in-Ok.ensures.reads_back c.put_care.ensures.valid is
