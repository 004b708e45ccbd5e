use Rattle.blif_read.proofs.LookBackLemmas.{models_look_back, covers_look_back}
use Rattle.blif_read.proofs.laws.lines_look_back_to_their_heads.Goals as goal

pub returns-clause-models : goal.returns-clause-models
returns-clause-models c = models_look_back

pub returns-clause-covers : goal.returns-clause-covers
returns-clause-covers c = covers_look_back
