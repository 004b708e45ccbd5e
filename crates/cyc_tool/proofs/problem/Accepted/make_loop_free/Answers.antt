use Rattle.std.proofs.Common.{◌≤◌, subst, arith}
use Rattle.std.specs.Prelude.{IfErr, OnOk}
use Rattle.care_sets.specs.Care.{CareSet}
use Rattle.cyc_base.specs.declared.limits.TheConstants.{MAX_REWRITTEN_ITEMS}
use Rattle.rewriting.specs.Rewriting.{rewritten_size, IsCountedOnCare}
use Rattle.unroll.specs.Counted.{Counted}
use Rattle.unroll.specs.Unrolled.{IsUnrollFault}
use Rattle.cyc_tool.proofs.Common.{IfOk-weaker}
use Rattle.cyc_tool.proofs.DecisionLemmas.{kept_columns}
use Rattle.std.proofs.lemmas.Result.{IfErr-weaker}
use Rattle.cyc_tool.proofs.problem.Accepted.make_loop_free.Goals as goal

pub rewrite-requires : goal.rewrite-requires
rewrite-requires c = let few = c.counted-counted.ensures.was.can.columns in rw c.counted-counted.ensures.counted (omega (arith, few))

pub returns-clause-rewriting : goal.returns-clause-rewriting
returns-clause-rewriting c =
    let p = c.args.self.now.problem in
    let is = c.counted-counted.ensures.was.is in
    IfOk-weaker c.rewrite.result _ _ (λ other made. made p.care p.observe is.accepts is.sweeps)
    (rw c.counted-counted.ensures.counted at c.rewrite.ensures.rewriting)

pub returns-clause-small : goal.returns-clause-small
returns-clause-small c =
    let p = c.args.self.now.problem in
    IfOk-weaker c.rewrite.result _ _ (λ other small. small p.care c.counted-counted.ensures.was.is.sweeps)
    (subst (λ (k : Counted). OnOk c.rewrite.result ((care : CareSet) → IsCountedOnCare k care → rewritten_size k.net care ≤ MAX_REWRITTEN_ITEMS))
    c.counted-counted.ensures.counted c.rewrite.ensures.small)

pub returns-clause-fault : goal.returns-clause-fault
returns-clause-fault c =
    let p = c.args.self.now.problem in
    IfErr-weaker c.rewrite.result _ _ (λ fault is. is p.care c.counted-counted.ensures.was.is.sweeps)
    (subst (λ (k : Counted). IfErr c.rewrite.result (λ fault. (care : CareSet) → IsCountedOnCare k care → IsUnrollFault (rewritten_size k.net care) fault))
    c.counted-counted.ensures.counted c.rewrite.ensures.fault)

pub returns-clause-columns : goal.returns-clause-columns
returns-clause-columns c =
    IfOk-weaker c.rewrite.result _ _ (λ other keeps. kept_columns c.args.self.now.problem.looped.net other keeps c.counted-counted.ensures.was.can.columns)
    (rw c.counted-counted.ensures.counted at c.rewrite.ensures.interface)
