use Rattle.std.proofs.Common.{ℕ, ◌≤◌, ◌∙◌, subst, arith}
use Rattle.std.proofs.lemmas.Result.{IfErr-weaker, on_ok_weaker}
use Rattle.std.specs.Prelude.{Ok, Err, IfOk, OnOk}
use Rattle.std.specs.declared.result.Result.{Result}
use Rattle.cyc_base.specs.declared.limits.TheConstants.{MAX_REWRITTEN_ITEMS}
use Rattle.unroll.specs.Unrolled.{IsUnrollFault}
use Rattle.rewriting.proofs.RewrittenLemmas.{is_rewriting, size_is_rewritten, unrolled_is_rewritten}
use Rattle.rewriting.proofs.rewriting.rewrite.Goals as goal

-- what follows for a value from three facts of it
by_three : {T E S : Type 0} (P Q R : T → Type 0) → ((x : T) → P x → S → Q x → R x) → (r : Result T E) → IfOk r P → OnOk r S → IfOk r Q → IfOk r R
by_three P Q R f r p s q = grind arith

pub returns-clause-rewriting : goal.returns-clause-rewriting
returns-clause-rewriting c =
    let l = c.args.counted.now in
    let is = c.net-net.ensures.is in
    by_three _ _ _
    (λ other unrolled small valid care what accepts on_care.
    is_rewriting l.net care what other (rw c.net-net.ensures.net at c.have_covers.ensures.valid) (rw c.net-net.ensures.net at c.have_covers.ensures.covers) accepts
    (unrolled ∙ unrolled_is_rewritten l.net l.blocks l.cut care l.sweeps is.blocks is.cut on_care) valid
    (subst (λ (size : ℕ). size ≤ MAX_REWRITTEN_ITEMS) (size_is_rewritten l.net l.blocks l.cut care l.sweeps is.blocks is.cut on_care) small))
    c.unroll_counted.result c.unroll_counted.ensures.unrolled c.unroll_counted.ensures.small c.unroll_counted.ensures.valid

pub returns-clause-small : goal.returns-clause-small
returns-clause-small c =
    let l = c.args.counted.now in
    let is = c.net-net.ensures.is in
    on_ok_weaker c.unroll_counted.result
    (λ small care on_care. subst (λ (size : ℕ). size ≤ MAX_REWRITTEN_ITEMS) (size_is_rewritten l.net l.blocks l.cut care l.sweeps is.blocks is.cut on_care) small)
    c.unroll_counted.ensures.small

pub returns-clause-fault : goal.returns-clause-fault
returns-clause-fault c =
    let l = c.args.counted.now in
    let is = c.net-net.ensures.is in
    IfErr-weaker c.unroll_counted.result _ _
    (λ fault told care on_care. subst (λ (size : ℕ). IsUnrollFault size fault) (size_is_rewritten l.net l.blocks l.cut care l.sweeps is.blocks is.cut on_care) told)
    c.unroll_counted.ensures.fault
