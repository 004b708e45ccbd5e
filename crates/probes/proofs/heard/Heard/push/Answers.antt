use Rattle.std.proofs.Common.{rules}
use Rattle.probes.proofs.heard.Heard.push.Goals as goal

pub returns-clause-heard : goal.returns-clause-heard
returns-clause-heard c = search rules
