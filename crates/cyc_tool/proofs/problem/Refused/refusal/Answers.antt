use Rattle.std.proofs.Common.{rules}
use Rattle.cyc_tool.proofs.DecisionLemmas.{refusal_fits, refusal_shown}
use Rattle.cyc_tool.specs.Problems.{WasRefused}
use Rattle.cyc_tool.proofs.problem.Refused.refusal.Goals as goal

pub returns-clause-fits : goal.returns-clause-fits
returns-clause-fits c =
    let r = c.args.self.now in
    let was : WasRefused r = search rules in
    refusal_fits r.problem.looped.net r.problem.care r.problem.observe r.refusal was.can.valid was.is

pub returns-clause-shown : goal.returns-clause-shown
returns-clause-shown c =
    let r = c.args.self.now in
    let was : WasRefused r = search rules in
    refusal_shown r.problem.looped.net r.problem.care r.problem.observe r.refusal was.can.valid was.is
