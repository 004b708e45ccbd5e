use Rattle.probes.proofs.CodeLemmas as lemma
use Rattle.probes.proofs.laws.codes_differ.Goals as goal

pub returns : goal.returns
returns c = lemma.codes_differ
