use Rattle.std.proofs.lemmas.Result.{IfErr-weaker, IfOk-weaker}
use Rattle.rewriting.specs.Rewriting.{rewritten_size}
use Rattle.rewriting.proofs.CaseLemmas.{case_fault}
use Rattle.rewriting.proofs.by_cases.rewrite_by_cases.Goals as goal

pub returns-in-Some-clause-form : goal.returns-in-Some-clause-form
returns-in-Some-clause-form c what accepts sweeps = let form = rw (c.in-Some.is, c.looped.ensures.looped) at c.in_ok-other.ensures.form in form what accepts

pub returns-in-None-clause-form : goal.returns-in-None-clause-form
returns-in-None-clause-form c =
    IfOk-weaker c.rewrite.result _ _ (λ other rewriting what accepts sweeps. let is = rewriting c.args.care.now what accepts sweeps in is.form) c.rewrite.ensures.rewriting

pub returns-in-None-clause-fault : goal.returns-in-None-clause-fault
returns-in-None-clause-fault c =
    IfErr-weaker c.rewrite.result _ _ (λ fault over sweeps. case_fault (rewritten_size c.args.counted.now.net c.args.care.now) fault (over c.args.care.now sweeps)) c.rewrite.ensures.fault
