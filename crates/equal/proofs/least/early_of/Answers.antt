use Rattle.equal.proofs.CompareLemmas.{accepted_judgement, refused_judgement}
use Rattle.equal.proofs.least.early_of.Goals as goal

pub returns-in-Accepted : goal.returns-in-Accepted
returns-in-Accepted c net care valid told = accepted_judgement c.args.judgement.now _ c.in-Accepted.is net care valid told

pub returns-in-Refused : goal.returns-in-Refused
returns-in-Refused c = refused_judgement c.vector_of.result c.args.judgement.now _ c.in-Refused.is c.vector_of.ensures
