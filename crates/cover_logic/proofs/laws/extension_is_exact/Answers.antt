use Rattle.cover_logic.proofs.ExtensionLemmas.{ext_is_exact, ext_at_bits}
use Rattle.cover_logic.proofs.laws.extension_is_exact.Goals as goal

pub returns-clause-exact : goal.returns-clause-exact
returns-clause-exact c = ext_is_exact

pub returns-clause-at_bits : goal.returns-clause-at_bits
returns-clause-at_bits c = ext_at_bits
