use Rattle.std.proofs.Common.{◌<◌, List, length, sym, subst, arith}
use Rattle.assumptions.specs.declared.search.TheConstants.{MAX_ROWS}
use Rattle.care_rows.specs.declared.rows.Row.{Row}
use Rattle.assumptions.specs.Making.{HasOneMore, IsNextRow}
use Rattle.assumptions.proofs.FoundLemmas.{one_more}
use Rattle.assumptions.proofs.search.go_on.Goals as goal

pub returns : goal.returns
returns c =
    let net = c.args.task.now.looped.now.net in
    let care = c.args.task.now.care.now in
    let what = c.args.task.now.observe in
    let rows = c.args.rows.now.items in
    let few : length rows < MAX_ROWS = grind (arith, c.if-len-ge-MAX_ROWS.false, c.len.ensures) in
    let next : IsNextRow net care what rows c.in_ok-row.row = subst (λ (rs : List Row). IsNextRow net care what rs c.in_ok-row.row) c.deref.ensures.value c.in_ok-row.ensures in
    subst (λ (rs : List Row). HasOneMore net care what rows rs) (sym c.in_ok-push.ensures.items) (one_more net care what rows c.in_ok-row.row few c.requires.rows next)
