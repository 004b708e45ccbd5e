use Rattle.std.proofs.Common.{◌≡◌, ◌≤◌, ◌∙◌, length, max, ap, sym, subst, arith, ℕ}
use Rattle.std.proofs.Math.Nat.{le-max_left, le-max_right}
use Rattle.cyc_base.proofs.TildeLemmas.{max_is}
use Rattle.case_split.specs.declared.cases.Case.{Case}
use Rattle.case_split.proofs.ChoiceLemmas.{widest_next, all_taken}
use Rattle.case_split.proofs.choosing.widest.Goals as goal

pub loop-case-preserved : goal.loop-case-preserved
loop-case-preserved c =
    let own : length c.deref-cube.result.now ≡ length c.case-item.result.cube.items = ap length c.deref-cube.ensures.value in
    let is : c.max-most.result ≡ max c.loop-case.most (length c.deref-cube.result.now) = c.max-most.ensures ∙ max_is c.loop-case.most (length c.deref-cube.result.now) in
    let low : c.loop-case.most ≤ c.max-most.result = subst (λ (n : ℕ). c.loop-case.most ≤ n) (sym is) (le-max_left c.loop-case.most (length c.deref-cube.result.now)) in
    let high : length c.deref-cube.result.now ≤ c.max-most.result = subst (λ (n : ℕ). length c.deref-cube.result.now ≤ n) (sym is) (le-max_right c.loop-case.most (length c.deref-cube.result.now)) in
    let few : length c.case-item.result.cube.items ≤ 1000 = subst (λ (x : Case). length x.cube.items ≤ 1000) (sym c.case-item.is) (c.requires c.loop-case.case-index c.case-item.result c.loop-case-test.true) in
    let before = c.loop-case.invariant.1 in (
      widest_next c.args.cases.now c.loop-case.case-index c.case-item.result c.loop-case.most c.max-most.result c.loop-case.invariant.0 c.loop-case-test.true low
          (subst (λ (x : Case). length x.cube.items ≤ c.max-most.result) c.case-item.is (subst (λ (n : ℕ). n ≤ c.max-most.result) own high)),
      subst (λ (n : ℕ). n ≤ 1000) (sym is) (omega arith),
    )

pub returns-clause-each : goal.returns-clause-each
returns-clause-each c = all_taken (λ case. length case.cube.items ≤ c.loop-case.most) c.args.cases.now c.loop-case.case-index (omega arith) c.loop-case.invariant.0
