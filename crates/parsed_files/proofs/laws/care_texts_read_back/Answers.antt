use Rattle.parsed_files.proofs.CareTextLemmas as lemmas
use Rattle.parsed_files.proofs.laws.care_texts_read_back.Goals as goal

pub returns : goal.returns
returns c = lemmas.care_texts_read_back
