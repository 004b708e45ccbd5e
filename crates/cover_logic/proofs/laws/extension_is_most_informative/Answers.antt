use Rattle.cover_logic.proofs.ExtensionLemmas.{ext_is_most_informative, value_is_monotone}
use Rattle.cover_logic.proofs.laws.extension_is_most_informative.Goals as goal

pub returns-clause-most_informative : goal.returns-clause-most_informative
returns-clause-most_informative c = ext_is_most_informative

pub returns-clause-value : goal.returns-clause-value
returns-clause-value c = value_is_monotone
