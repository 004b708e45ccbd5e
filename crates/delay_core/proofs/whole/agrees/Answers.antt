use Rattle.std.proofs.Common.{rules}
use Rattle.delay_core.proofs.whole.agrees.Goals as goal

pub returns-in-X : goal.returns-in-X
returns-in-X c = search rules
