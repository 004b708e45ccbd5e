use Rattle.std.proofs.Common.{◌≡◌, ◌+◌, ◌∷◌, [], length, ap, subst, sym, ◌∙◌, arith}
use Rattle.std.proofs.lemmas.List.{length-append}
use Rattle.cyc_base.specs.declared.trit.Trit.TheVariants.{X}
use Rattle.netlist.specs.Netlists.{signal}
use Rattle.case_split.specs.declared.operands.Operand.TheVariants.{Wire}
use Rattle.case_split.specs.Tables.{plain_of}
use Rattle.case_split.proofs.ListLemmas.{AreMade, made_next}
use Rattle.case_split.proofs.tables.plain_table.Goals as goal

pub loop-number-preserved : goal.loop-number-preserved
loop-number-preserved c =
    let values = c.args.values.now in
    let number = c.loop-number.number in (
      ap length c.in_ok-push.ensures.items ∙ length-append c.loop-number.table.items (c.plain.result ∷ []) ∙ ap (λ n. n + 1) c.loop-number.invariant.0,
      (let l = c.loop-number-test.true in omega arith),
      subst (AreMade (λ i t. plain_of t (signal i)) (λ i. X) (λ i. Wire (signal i)) values (number + 1)) (sym c.in_ok-push.ensures.items)
          (made_next (λ i t. plain_of t (signal i)) (λ i. X) (λ i. Wire (signal i)) values c.loop-number.table.items number c.plain.result _ c.loop-number.invariant.0 c.loop-number-test.true c.plain.ensures c.loop-number.invariant.2),
    )

pub returns : goal.returns
returns c =
    let same : c.loop-number.number ≡ length c.args.values.now = (let i = c.loop-number.invariant.1 in let t = c.loop-number-test.false in omega arith) in
    record {
      width = c.loop-number.invariant.0 ∙ same;
      each = λ i l. c.loop-number.invariant.2 i (omega arith);
    }
