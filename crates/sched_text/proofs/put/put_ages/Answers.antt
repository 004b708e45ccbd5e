use Rattle.std.proofs.Common.{arith, subst, List, ℕ}
use Rattle.std.specs.Prelude.{All}
use Rattle.sched_text.proofs.Common.{decimal, All-more, after_blank, IsSmall, appended_none, appended_copied, appended_in_copied, appended_items}
use Rattle.std.proofs.lemmas.List.{take_all}
use Rattle.sched_text.proofs.put.put_ages.Goals as goal

pub loop-age-init : goal.loop-age-init
loop-age-init g c = record { text = appended_none _ _ _; small = λ k d inside. absurd (omega (arith, inside)) }

pub loop-age-preserved : goal.loop-age-preserved
loop-age-preserved g c = record {
  text = appended_copied (λ age. after_blank (decimal age)) c.args.ages.now c.loop-age.age-index _ _ _ _ _ _ _ _ _ (omega arith) c.loop-age.invariant.text c.in_ok-put_numbered.ensures;
  small = All-more IsSmall c.args.ages.now c.loop-age.age-index 0 (omega arith) c.loop-age.invariant.small (let fits = c.type_inv.ages c.loop-age.age-index in omega (arith, fits));
}

pub returns-in_err-put_numbered-clause-text : goal.returns-in_err-put_numbered-clause-text
returns-in_err-put_numbered-clause-text g c = appended_in_copied (λ age. after_blank (decimal age)) c.args.ages.now c.loop-age.age-index _ _ _ _ _ _ _ _ _ _ (omega arith) c.loop-age.invariant.text c.in_err-put_numbered.ensures c.from_residual.ensures.0

pub returns-clause-text : goal.returns-clause-text
returns-clause-text g c = appended_items (λ age. after_blank (decimal age)) c.args.ages.now c.loop-age.age-index _ _ (omega arith) c.loop-age.invariant.text

pub returns-clause-small : goal.returns-clause-small
returns-clause-small g c = subst (λ (ages : List ℕ). All IsSmall ages) (take_all c.loop-age.age-index c.args.ages.now (omega arith)) c.loop-age.invariant.small
