use Rattle.std.proofs.Common.{ℕ, ◌<◌, All, subst, sym}
use Rattle.loops.specs.Sweeps.{first_gate}
use Rattle.case_split.proofs.nearness.near_columns.Goals as goal

pub returns : goal.returns
returns c =
    let bound = first_gate c.args.net.now in
    c.in_ok-columns.ensures bound (subst (All (λ (column : ℕ). column < bound)) (sym c.deref-2.ensures.value) c.in_ok-follow.ensures.columns_are)
