use Rattle.std.proofs.Common.{rules}
use Rattle.cover_logic.proofs.value.is_allowed.Goals as goal

pub returns-in-Zero : goal.returns-in-Zero
returns-in-Zero c = search rules
