use Rattle.std.proofs.Common.{ap, subst, ◌∙◌, arith}
use Rattle.std.specs.Prelude.{IfErr}
use Rattle.care_sets.specs.Care.{CareSet}
use Rattle.rewriting.specs.Rewriting.{rewritten_size, IsCaseFault, IsCountedOnCare}
use Rattle.unroll.specs.Counted.{Counted}
use Rattle.cyc_tool.proofs.Common.{IfOk-weaker}
use Rattle.cyc_tool.proofs.DecisionLemmas.{kept_columns}
use Rattle.std.proofs.lemmas.Result.{IfErr-weaker}
use Rattle.cyc_tool.specs.Problems.{Problem, counted_in}
use Rattle.cyc_tool.proofs.problem.Accepted.make_loop_free_by.Goals as goal

pub rewrite_by_cases-requires-clause-inputs : goal.rewrite_by_cases-requires-clause-inputs
rewrite_by_cases-requires-clause-inputs c =
    let few = c.counted-counted.ensures.was.can.columns in rw c.counted-counted.ensures.counted (omega (arith, few))

pub rewrite_by_cases-requires-clause-care : goal.rewrite_by_cases-requires-clause-care
rewrite_by_cases-requires-clause-care c =
    rw (c.counted-counted.ensures.counted, c.care-care.ensures.care, c.problem-problem.ensures.problem) c.counted-counted.ensures.was.can.care

pub rewrite_by_cases-requires-clause-nodes : goal.rewrite_by_cases-requires-clause-nodes
rewrite_by_cases-requires-clause-nodes c = rw (c.limit-limit.ensures.limit, c.problem-problem.ensures.problem) c.counted-counted.ensures.was.can.limit

pub returns-clause-form : goal.returns-clause-form
returns-clause-form c =
    let p = c.args.self.now.problem in
    let is = c.counted-counted.ensures.was.is in
    IfOk-weaker c.rewrite_by_cases.result _ _ (λ other form. form p.observe is.accepts is.sweeps)
    (rw (c.counted-counted.ensures.counted, c.care-care.ensures.care, c.problem-problem.ensures.problem) at c.rewrite_by_cases.ensures.form)

pub returns-clause-fault : goal.returns-clause-fault
returns-clause-fault c =
    let a = c.args.self.now in
    IfErr-weaker c.rewrite_by_cases.result _ _ (λ fault is. is c.counted-counted.ensures.was.is.sweeps)
    (subst (λ (n : CareSet). IfErr c.rewrite_by_cases.result (λ fault. IsCountedOnCare (counted_in a) n → IsCaseFault (rewritten_size a.problem.looped.net n) fault))
    (c.care-care.ensures.care ∙ ap (λ (p : Problem). p.care) c.problem-problem.ensures.problem)
    (subst (λ (k : Counted). IfErr c.rewrite_by_cases.result (λ fault. IsCountedOnCare k c.care-care.result.now → IsCaseFault (rewritten_size k.net c.care-care.result.now) fault))
    c.counted-counted.ensures.counted c.rewrite_by_cases.ensures.fault))

pub returns-clause-columns : goal.returns-clause-columns
returns-clause-columns c =
    IfOk-weaker c.rewrite_by_cases.result _ _ (λ other keeps. kept_columns c.args.self.now.problem.looped.net other keeps c.counted-counted.ensures.was.can.columns)
    (rw c.counted-counted.ensures.counted at c.rewrite_by_cases.ensures.interface)
