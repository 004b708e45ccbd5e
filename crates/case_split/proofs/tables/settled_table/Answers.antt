use Rattle.std.proofs.Common.{◌∙◌, List, IfOk, ap, length, subst, arith}
use Rattle.std.proofs.lemmas.Result.{IfOk-weaker}
use Rattle.cyc_base.specs.declared.trit.Trit.{Trit}
use Rattle.netlist.proofs.FixpointLemmas.{length-fix}
use Rattle.case_split.specs.Tables.{ArePlain}
use Rattle.case_split.proofs.tables.settled_table.Goals as goal

pub plain_table-requires : goal.plain_table-requires
plain_table-requires c =
    let wide = ap length (c.deref.ensures.value ∙ c.in_ok-values.ensures) ∙ length-fix c.args.net.now c.args.given.now c.requires.width in
    let fits = c.laws.ensures.valid.fits in
    omega arith

pub returns-clause-plain : goal.returns-clause-plain
returns-clause-plain c =
    subst (λ (values : List Trit). IfOk c.plain_table.result (λ table. ArePlain values table.items)) (c.deref.ensures.value ∙ c.in_ok-values.ensures) c.plain_table.ensures

pub returns-clause-width : goal.returns-clause-width
returns-clause-width c =
    IfOk-weaker c.plain_table.result _ _ (λ table plain. plain.width ∙ ap length (c.deref.ensures.value ∙ c.in_ok-values.ensures) ∙ length-fix c.args.net.now c.args.given.now c.requires.width) c.plain_table.ensures
