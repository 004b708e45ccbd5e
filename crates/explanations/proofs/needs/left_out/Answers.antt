use Rattle.std.proofs.Common.{◌≡◌, get_or, sym, subst, ℕ, arith}
use Rattle.std.proofs.lemmas.List.{get_or_default}
use Rattle.cyc_base.specs.declared.trit.Trit.TheVariants.{Zero, X}
use Rattle.cyc_base.proofs.OrderLemmas.{EachBelow-length}
use Rattle.explanations.specs.Explained.{IsWithoutRun}
use Rattle.explanations.proofs.NeedLemmas.{without_one_more}
use Rattle.explanations.proofs.needs.left_out.Goals as goal

pub loop-column-preserved : goal.loop-column-preserved
loop-column-preserved c =
    let kept = c.args.kept.now in
    let size = EachBelow-length kept c.args.given.now c.requires.kept in
    let within = c.requires.within in
    let from = c.loop-column.auto.column in
    let inside = c.loop-column-test.true in
    let same : get_or kept c.loop-column.column X ≡ get_or kept c.loop-column.column Zero = get_or_default kept c.loop-column.column X Zero (omega arith) in
    without_one_more kept c.args.given.now c.loop-column.fewer.items c.args.first c.loop-column.column (get_or kept c.loop-column.column Zero)
    (omega arith) (omega arith) (sym same) c.loop-column.invariant

pub returns : goal.returns
returns c =
    let end = c.loop-column.auto.column-end c.requires.run in
    let test = c.loop-column-test.false in
    let there : c.loop-column.column ≡ c.args.last = omega arith in
    subst (λ (n : ℕ). IsWithoutRun c.args.kept.now c.args.first n c.args.given.now c.loop-column.fewer.items) there c.loop-column.invariant

pub bounds-kept-column : goal.bounds-kept-column
bounds-kept-column c =
    let size = EachBelow-length c.args.kept.now c.args.given.now c.requires.kept in
    let within = c.requires.within in
    let inside = c.loop-column-test.true in
    omega arith
