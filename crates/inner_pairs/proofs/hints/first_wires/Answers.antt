use Rattle.std.proofs.Common.{◌<◌, ℕ, nat_eq, List, All, map, subst, sym, arith}
use Rattle.inner_pairs.proofs.AlikeLemmas.{values_inserted}
use Rattle.inner_pairs.proofs.hints.first_wires.Goals as goal

pub loop-from_last-preserved : goal.loop-from_last-preserved
loop-from_last-preserved c =
    subst (λ (entries : List (ℕ × ℕ)). All (λ wire. wire < c.args.count) (map (λ e. e.1) entries)) (sym c.in_ok-insert.ensures.entries)
    (values_inserted nat_eq (λ wire. wire < c.args.count) c.loop-from_last.firsts.entries _ _ c.loop-from_last.invariant
    (omega (arith, c.loop-from_last-test.true)))
