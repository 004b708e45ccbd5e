use Rattle.std.proofs.Common.{true, false}
use Rattle.bdd_store.proofs.BranchLemmas.{entry-branch}
use Rattle.bdd_store.proofs.store.Store.branch.Goals as goal
use Rattle.bdd_store.proofs.store.Store.branch.Goals.{then-bit, else-bit}

pub returns : goal.returns
returns c =
    let is = entry-branch c.entry-entry.ensures.sound c.args.n c.entry-entry.result c.entry-entry.ensures.at c.requires.branching in
    rw (c.complement_if.ensures.complement, c.is_marked.ensures) (elim c.if-bit.branch [
      | then-bit w ↦ rw (w.branch'-is, w.if-bit.true) (is true)
      | else-bit w ↦ rw (w.branch'-is, w.if-bit.false) (is false)
    ])
