use Rattle.std.proofs.Common.{arith}
use Rattle.std.proofs.lemmas.Result.{IfOk-weaker}
use Rattle.care_rows.proofs.KeepLemmas.{kept_is}
use Rattle.care_rows.proofs.keeping.keep.Goals as goal

pub kept_of_marks-requires : goal.kept_of_marks-requires
kept_of_marks-requires c =
    let valid = rw c.net.ensures.net at c.laws.ensures in
    let used = rw c.net-2.ensures.net at c.in_ok-columns.ensures in
    let a = used.width in
    let b = c.in_ok-gates.ensures.width in
    let few = valid.valid.fits in
    omega (arith, a, b, few)

pub returns : goal.returns
returns c =
    let used = rw (c.net-2.ensures.net, c.deref.ensures.value) at c.in_ok-columns.ensures in
    IfOk-weaker c.kept_of_marks.result _ _ (λ kept is. kept_is c.args.looped.now.net c.args.assumed.now c.args.rows.now c.in_ok-columns.columns.items c.in_ok-gates.gates.items kept c.in_ok-gates.ensures used is) c.kept_of_marks.ensures
